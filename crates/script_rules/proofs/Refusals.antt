-- A text is a script or is refused, and a refusal names the first faulty line.
use Rattle.std.proofs.Common.{◌≡◌, ℕ, ◌^◌, ◌≤◌, cond, List, length, Some, None, refl, sym, ap, ◌∙◌, arith, inl, inr, ◌⊎◌}
use Rattle.std.specs.Prelude.{Result, Ok, Err}
use Rattle.std.proofs.lemmas.Bool.{lt-ltb, le-ltb}
use Rattle.dpc_model.specs.declared.scripts.Script.{Script}
use Rattle.script_rules.specs.declared.reasons.Reason.TheVariants.{PastLimit}
use Rattle.script_rules.specs.declared.reasons.PlanFault.{PlanFault}
use Rattle.script_rules.specs.Lines.{lines_of}
use Rattle.script_rules.specs.Drafts.{Draft, nothing_yet}
use Rattle.script_rules.specs.Reading.{reading, read_from, concluded, fault_in, script_in, refusal}
use Rattle.script_rules.specs.Laws.{ReadsOrRefuses, RefusesLong, RefusesFirst}
use Rattle.script_rules.proofs.FirstFaults.{refused, refuses}

-- one of the two
either : (r : Result Script PlanFault) → ((s : Script) × (script_in r ≡ Some s) × (fault_in r ≡ None)) ⊎ ((fault : PlanFault) × (script_in r ≡ None) × (fault_in r ≡ Some fault))
either (Ok s) = inl (s, refl, refl)
either (Err fault) = inr (fault, refl, refl)

-- a text is a script or is refused
pub reads_or_refuses : ReadsOrRefuses
reads_or_refuses text = either (reading text)

-- a text of more than 64 MiB is refused at line 0
pub refuses_long : RefusesLong
unfolding reading
refuses_long text long =
    ap (λ t. fault_in (cond t (Err (record { line = 0; reason = PastLimit })) (concluded (read_from 1 nothing_yet (lines_of text))))) (lt-ltb (2 ^ 26) (length text) (omega arith))

-- a shorter one is refused where its lines are
refused_by_lines : (text : List ℕ) → length text ≤ 2 ^ 26 → refusal text ≡ fault_in (concluded (read_from 1 nothing_yet (lines_of text)))
unfolding reading
refused_by_lines text short =
    ap (λ t. fault_in (cond t (Err (record { line = 0; reason = PastLimit })) (concluded (read_from 1 nothing_yet (lines_of text))))) (le-ltb (2 ^ 26) (length text) short)

fault_of_lines : (r : Result Draft PlanFault) (fault : PlanFault) → fault_in (concluded r) ≡ Some fault → r ≡ Err fault
fault_of_lines (Ok d) fault e = absurd cc
fault_of_lines (Err found) fault e = let same : found ≡ fault = cc in ap Err same

-- a text is refused at its first faulty line
pub refuses_first : RefusesFirst
refuses_first text m r short = (
  λ e. refused 1 nothing_yet (lines_of text) m r (fault_of_lines _ _ (sym (refused_by_lines text short) ∙ e)),
  λ x. refused_by_lines text short ∙ ap (λ result. fault_in (concluded result)) (refuses 1 nothing_yet (lines_of text) m r x),
)
