-- The laws that are wanted of these definitions.
use Rattle.std.specs.Prelude.{◌≡◌, ℕ, ◌+◌, ◌^◌, ◌≤◌, Bool, true, false, ◌&&◌, nat_lt, ◌⊎◌, ◌↔◌, List, ◌∷◌, ◌++◌, map, length, flat_map, fold, Some, None, ◌-◌, slice_get}
use Rattle.dpc_lists.specs.Lists.{list_all, IsRising}
use Rattle.dpc_model.specs.Actors.{roles_of, actors_where}
use Rattle.dpc_model.specs.declared.actors.Role.{Role}
use Rattle.dpc_model.specs.ScriptText.{script_text, formula_words}
use Rattle.dpc_model.specs.Formula.{Formula}
use Rattle.dpc_model.specs.declared.operators.Wire.{Wire}
use Rattle.dpc_model.specs.declared.operators.Wire.TheVariants.{Port, Op}
use Rattle.dpc_model.specs.declared.operators.OpSpec.{OpSpec}
use Rattle.dpc_model.specs.declared.plans.FragSpec.{FragSpec}
use Rattle.dpc_model.specs.declared.plans.ClientSpec.{ClientSpec}
use Rattle.dpc_model.specs.declared.plans.Plan.{Plan}
use Rattle.dpc_model.specs.declared.scripts.Directive.{Directive}
use Rattle.dpc_model.specs.declared.scripts.Directive.TheVariants.{Emit, Release, Cut, Heal, Lose, Repeat, Crash, Restart}
use Rattle.dpc_model.specs.declared.scripts.Phase.{Phase}
use Rattle.dpc_model.specs.declared.scripts.Script.{Script}
use Rattle.script_rules.specs.declared.reasons.Reason.{Reason}
use Rattle.script_rules.specs.declared.reasons.Reason.TheVariants.{PastLimit}
use Rattle.script_rules.specs.declared.reasons.PlanFault.{PlanFault}
use Rattle.script_rules.specs.ReasonTable.{reasons, number_of}
use Rattle.script_rules.specs.Lines.{lines_of}
use Rattle.script_rules.specs.Symbols.{formulas}
use Rattle.script_rules.specs.Places.{must, leaves_over}
use Rattle.script_rules.specs.declared.places.Sort.TheVariants.{Expression}
use Rattle.script_rules.specs.Drafts.{Draft, nothing_yet}
use Rattle.script_rules.specs.Reasons.{applies}
use Rattle.script_rules.specs.Reading.{fault_of, fault_of_end, with_line, refusal, read}
use Rattle.script_rules.specs.Checking.{IsChecked, is_in_range, is_formula_in_range, check}
use Rattle.script_rules.specs.Canonical.{IsCanonical}
use Rattle.script_rules.specs.Facts.{HasFacts, HasForm, is_there}

-- ---- a refusal names the first faulty line, and the least reason there

-- no reason applies to any of the lines, behind those that said d
abbrev pub AreFaultless : Draft → List (List ℕ) → Type 0
AreFaultless d lines =
    (before after : List (List ℕ)) (line : List ℕ) → lines ≡ before ++ line ∷ after → fault_of (fold with_line d before) line ≡ None

-- of the lines from number n on, behind those that said d, line m is the first one with a fault, and r the least reason there
pub record IsRefusedAtLine (n : ℕ) (d : Draft) (lines : List (List ℕ)) (m : ℕ) (r : Reason) : Type 0 where
  pub before : List (List ℕ)
  pub line : List ℕ
  pub after : List (List ℕ)
  pub parts : lines ≡ before ++ line ∷ after
  pub number : m ≡ n + length before
  pub faultless : AreFaultless d before
  pub fault : fault_of (fold with_line d before) line ≡ Some r

-- no line has a fault, and the end of input has
pub record IsRefusedAtEnd (n : ℕ) (d : Draft) (lines : List (List ℕ)) (m : ℕ) (r : Reason) : Type 0 where
  pub number : m ≡ n + length lines
  pub faultless : AreFaultless d lines
  pub fault : fault_of_end (fold with_line d lines) ≡ Some r

abbrev pub IsRefusedFrom : ℕ → Draft → List (List ℕ) → ℕ → Reason → Type 0
IsRefusedFrom n d lines m r = IsRefusedAtLine n d lines m r ⊎ IsRefusedAtEnd n d lines m r

-- a text of at most 64 MiB is refused at its first faulty line
abbrev pub RefusesFirst : Type 0
RefusesFirst =
    (text : List ℕ) (m : ℕ) (r : Reason) → length text ≤ 2 ^ 26
    → (refusal text ≡ Some (record { line = m; reason = r })) ↔ IsRefusedFrom 1 nothing_yet (lines_of text) m r

-- reasons of one number are the same, so that "the least reason" is one
abbrev pub NumbersTell : Type 0
NumbersTell = (q r : Reason) → number_of q ≡ number_of r → q ≡ r

-- the reasons are listed by their numbers, from 1
abbrev pub ReasonsAreListed : Type 0
ReasonsAreListed = (r : Reason) → slice_get reasons (number_of r - 1) ≡ Some r

-- a line with a fault has the least reason that applies to it
abbrev pub NamesLeast : Type 0
NamesLeast =
    (d : Draft) (line : List ℕ) (r : Reason) → fault_of d line ≡ Some r
    → (applies d line r ≡ true) × ((q : Reason) → applies d line q ≡ true → number_of r ≤ number_of q)

-- .. and a line to which none applies has no fault
abbrev pub RefusesOnlyFaults : Type 0
RefusesOnlyFaults = (d : Draft) (line : List ℕ) → fault_of d line ≡ None → (q : Reason) → applies d line q ≡ false

-- a longer one at line 0
abbrev pub RefusesLong : Type 0
RefusesLong = (text : List ℕ) → 2 ^ 26 + 1 ≤ length text → refusal text ≡ Some (record { line = 0; reason = PastLimit })

-- a text is a script or is refused, and not both
abbrev pub ReadsOrRefuses : Type 0
ReadsOrRefuses =
    (text : List ℕ)
    → ((s : Script) × (read text ≡ Some s) × (refusal text ≡ None)) ⊎ ((fault : PlanFault) × (read text ≡ None) × (refusal text ≡ Some fault))

-- ---- expressions, both ways

-- the words of expressions in range are read as these expressions
abbrev pub ReadsExpressions : Type 0
ReadsExpressions = (es : List Formula) → list_all is_formula_in_range es ≡ true → formulas (flat_map formula_words es) ≡ es

-- .. and fill as many places, and no more
abbrev pub FillsExpressions : Type 0
FillsExpressions =
    (es : List Formula) → list_all is_formula_in_range es ≡ true
    → leaves_over (map (λ e. must Expression) es) (flat_map formula_words es) ≡ false

-- ---- texts and scripts, both ways

-- the canonical text of a checked script reads as that script
abbrev pub ReadsBack : Type 0
ReadsBack = (s : Script) → IsChecked s → length (script_text s) ≤ 2 ^ 26 → read (script_text s) ≡ Some s

-- a canonical text is that of the script that it reads as
abbrev pub PrintsBack : Type 0
PrintsBack = (text : List ℕ) (s : Script) → read text ≡ Some s → IsCanonical text → text ≡ script_text s

abbrev pub PrintsCanonical : Type 0
PrintsCanonical = (s : Script) → IsChecked s → IsCanonical (script_text s)

-- what is read is checked
abbrev pub ReadsChecked : Type 0
ReadsChecked = (text : List ℕ) (s : Script) → read text ≡ Some s → IsChecked s

-- ---- check and refusal

abbrev pub is_actor : Plan → ℕ → Bool
is_actor plan a = nat_lt a (length (roles_of plan))

abbrev pub is_named_wire : FragSpec → Wire → Bool
is_named_wire f (Port p) = nat_lt p (length f.inputs)
is_named_wire f (Op i) = nat_lt i (length f.ops)

abbrev pub has_named_wires : FragSpec → Bool
has_named_wires f = list_all (λ (op : OpSpec). list_all (is_named_wire f) op.reads) f.ops

abbrev pub has_named_actors : Plan → Directive → Bool
has_named_actors plan (Emit s t) = nat_lt s (length plan.sources)
has_named_actors plan (Release s t) = nat_lt s (length plan.sources)
has_named_actors plan (Cut a b) = is_actor plan a && is_actor plan b
has_named_actors plan (Heal a b) = is_actor plan a && is_actor plan b
has_named_actors plan (Lose a b) = is_actor plan a && is_actor plan b
has_named_actors plan (Repeat a b) = is_actor plan a && is_actor plan b
has_named_actors plan (Crash a) = is_actor plan a
has_named_actors plan (Restart a) = is_actor plan a

-- each number by which a script refers to something refers to something that has a name, so that each line can be written
abbrev pub refers_to_names : Script → Bool
refers_to_names s =
    list_all (λ (f : FragSpec). list_all (is_there s.plan) f.inputs && has_named_wires f) s.plan.frags
    && list_all (λ (c : ClientSpec). is_there s.plan c.input) s.plan.clients
    && list_all (has_named_actors s.plan) (flat_map (λ (p : Phase). p.directives) s.phases)

-- the canonical text of a script in range is refused exactly as check says, at the same line
abbrev pub RefusesAsChecked : Type 0
RefusesAsChecked =
    (s : Script) → is_in_range s ≡ true → refers_to_names s ≡ true → length (script_text s) ≤ 2 ^ 26 → refusal (script_text s) ≡ check s

-- ---- what engines need

-- the form of a checked script, which no name decides
abbrev pub CheckedHasForm : Type 0
CheckedHasForm = (s : Script) → IsChecked s → HasForm s

-- .. and of what is read
abbrev pub ReadsHaveForm : Type 0
ReadsHaveForm = (text : List ℕ) (s : Script) → read text ≡ Some s → HasForm s

-- all that engines rely on, of what is read
abbrev pub ReadsHaveFacts : Type 0
ReadsHaveFacts = (text : List ℕ) (s : Script) → read text ≡ Some s → HasFacts s

-- the senders of a stream, its readers and the replicas of a fragment are in order of number, each one once
abbrev pub ActorsAreInOrder : Type 0
ActorsAreInOrder = (test : Role → Bool) (plan : Plan) → IsRising 0 (actors_where test plan)

abbrev pub CheckedHasFacts : Type 0
CheckedHasFacts = (s : Script) → IsChecked s → HasFacts s
