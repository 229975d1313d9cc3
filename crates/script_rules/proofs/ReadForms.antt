-- What is read has the form of a checked script, and what engines rely on.
use Rattle.std.proofs.Common.{◌≡◌, ℕ, ◌+◌, ◌≤◌, Bool, true, false, List, [], ◌∷◌, map, length, Option, Some, None, refl, sym, subst, ◌∙◌, arith}
use Rattle.std.specs.Prelude.{not, ◌||◌, ◌==◌, flat_map, if◌then◌else◌, Result, Ok, Err, drop}
use Rattle.std.proofs.lemmas.Bool.{and_parts, or_parts, eqb-true}
use Rattle.std.proofs.lemmas.List.{length-map}
use Rattle.std.proofs.lemmas.List.Folds.{list_all-append}
use Rattle.dpc_lists.specs.Lists.{nth, list_all, list_any, is_nil}
use Rattle.dpc_model.specs.Words.{Word}
use Rattle.dpc_model.specs.Columns.{stream_columns}
use Rattle.dpc_model.specs.declared.plans.FragSpec.{FragSpec}
use Rattle.dpc_model.specs.declared.plans.ClientSpec.{ClientSpec}
use Rattle.dpc_model.specs.declared.plans.Plan.{Plan}
use Rattle.dpc_model.specs.declared.scripts.Phase.{Phase}
use Rattle.dpc_model.specs.declared.scripts.Script.{Script}
use Rattle.script_rules.specs.declared.reasons.Reason.{Reason}
use Rattle.script_rules.specs.declared.reasons.Reason.TheVariants.{ForeignByte, PartMissing, PastLimit}
use Rattle.script_rules.specs.declared.reasons.PlanFault.{PlanFault}
use Rattle.script_rules.specs.declared.keywords.Keyword.{Keyword}
use Rattle.script_rules.specs.Lines.{lines_of, words_of, is_skipped}
use Rattle.script_rules.specs.Keywords.{keyword_of}
use Rattle.script_rules.specs.Statements.{statement_of}
use Rattle.script_rules.specs.Drafts.{Draft, nothing_yet, version_of, is_wide, plan_of, script_of}
use Rattle.script_rules.specs.Reasons.{has_foreign_byte, first_of_tests, tests_of_words, tests_unless_skipped, tests_said, keyword_in}
use Rattle.script_rules.specs.Reading.{fault_of, fault_of_end, with_words, with_line, read_from, is_too_large_text, concluded, reading, script_in}
use Rattle.script_rules.specs.Facts.{is_there, ops_fit, frag_fits, directive_fits, HasForm, HasFacts}
use Rattle.script_rules.specs.Laws.{ReadsHaveForm, ReadsHaveFacts}
use Rattle.script_rules.proofs.Passing.{NoneHolds, is_fine, none_holds}
use Rattle.script_rules.proofs.Ordered.{ordered-map}
use Rattle.script_rules.proofs.AllSources.{logs_in_order}
use Rattle.script_rules.proofs.Streams.{is_within}
use Rattle.script_rules.proofs.Inputs.{read_before}
use Rattle.script_rules.proofs.There.{all_there}
use Rattle.script_rules.proofs.Growing.{in_order}
use Rattle.script_rules.proofs.Formed.{IsEnd, IsHeader}
use Rattle.script_rules.proofs.Placed.{is_placed}
use Rattle.script_rules.proofs.Fitting.{all_columns, all_fit}
use Rattle.script_rules.proofs.Fitted.{IsFitted, fitted}

-- ---- every line keeps the form

abbrev pub Tests : Type 0
Tests = List (Bool × Reason)

-- none of those that do not hold is found
pub none_found : (tests : Tests) → NoneHolds tests → first_of_tests tests ≡ None
none_found [] h = refl
none_found ((true, n) ∷ tests) h = absurd cc
none_found ((false, n) ∷ tests) h = none_found tests h.1

with_keyword : (d : Draft) (w : Word) (k : Keyword) (words : List Word) → keyword_of (version_of d) w ≡ Some k → first_of_tests (tests_of_words d (Some k) words) ≡ None → IsFitted d → IsFitted (with_words d (Some k) words)
with_keyword d w k words e none so_far =
    let test_2 = none_holds (tests_of_words d (Some k) words) none in
    let test_3 = test_2.1 in
    let test_4 = test_3.1 in
    let test_5 = test_4.1 in
    let test_6 = test_5.1 in
    let fine = is_fine d (statement_of k words) (none_found (tests_said d (statement_of k words)) test_6.1) in
    fitted d (statement_of k words) (is_placed d k w words e test_3.0 test_5.0 test_6.0 fine) fine so_far

with_first : (d : Draft) (w : Word) (words : List Word) (o : Option Keyword) → keyword_of (version_of d) w ≡ o → first_of_tests (tests_of_words d o words) ≡ None → IsFitted d → IsFitted (with_words d o words)
with_first d w words None e none h = absurd cc
with_first d w words (Some k) e none h = with_keyword d w k words e none h

with_its_words : (d : Draft) (words : List Word) → first_of_tests (tests_of_words d (keyword_in d words) (drop 1 words)) ≡ None → IsFitted d → IsFitted (with_words d (keyword_in d words) (drop 1 words))
with_its_words d [] none h = absurd cc
with_its_words d (w ∷ words) none h = with_first d w words (keyword_of (version_of d) w) refl none h

pub further_tests : (b : Bool) (n : Reason) (tests : Tests) → first_of_tests ((b, n) ∷ tests) ≡ None → first_of_tests tests ≡ None
further_tests true n tests e = absurd cc
further_tests false n tests e = e

line_fitted : (d : Draft) (line : List ℕ) → fault_of d line ≡ None → IsFitted d → IsFitted (with_line d line)
unfolding fault_of with_line
line_fitted d line none h =
    (elim (is_skipped line) as (λ b. first_of_tests (tests_unless_skipped b d (words_of line)) ≡ None → IsFitted (if b then d else with_words d (keyword_in d (words_of line)) (drop 1 (words_of line)))) [
      | true ↦ λ e. h
      | false ↦ λ e. with_its_words d (words_of line) e h
    ]) (further_tests (has_foreign_byte line) ForeignByte (tests_unless_skipped (is_skipped line) d (words_of line)) none)

-- what is read is well formed, and ended
pub record IsRead (d : Draft) : Type 0 where
  pub fitted : IsFitted d
  pub ended : fault_of_end d ≡ None

lines_fitted : (n : ℕ) (d e : Draft) (lines : List (List ℕ)) → read_from n d lines ≡ Ok e → IsFitted d → IsRead e
lines_fitted n d e [] read h =
    (elim (fault_of_end d) as (λ o. fault_of_end d ≡ o → (elim o as (λ o. Result Draft PlanFault) [ None ↦ Ok d | Some r ↦ Err (record { line = n; reason = r }) ]) ≡ Ok e → IsRead e) [
      | None ↦ λ is read. let same : d ≡ e = cc in subst IsRead same (record { fitted = h; ended = is })
      | Some r ↦ λ is read. absurd cc
    ]) refl read
lines_fitted n d e (line ∷ lines) read h =
    (elim (fault_of d line) as (λ o. fault_of d line ≡ o → (elim o as (λ o. Result Draft PlanFault) [ None ↦ read_from (n + 1) (with_line d line) lines | Some r ↦ Err (record { line = n; reason = r }) ]) ≡ Ok e → IsRead e) [
      | None ↦ λ is read. lines_fitted (n + 1) (with_line d line) e lines read (line_fitted d line is h)
      | Some r ↦ λ is read. absurd cc
    ]) refl read

pub nothing_fitted : IsFitted nothing_yet
nothing_fitted =
    record {
      form = record {
        parts = record { header = tt; waits = λ none. record { sources = refl; frags = refl; clients = refl }; whole = λ begun. absurd cc };
        sources = record { fit = refl; ordered = tt; few = omega arith };
        frags = record { sound = tt; reads = tt; sizes = refl; once = refl };
        clients = refl;
        distinct = refl;
        clocks = (tt, omega arith);
      };
      frags = tt;
      directives = record { waits = λ early. refl; some_op = λ late. absurd cc; fit = refl };
    }

-- ---- the form of a script that is well formed and ended

pub record HasNumbers (w e : ℕ) : Type 0 where
  pub width : 1 ≤ w
  pub end : IsEnd w e

pub few_of : (wide : Bool) (n : ℕ) → (n == (if wide then 5 else 4)) ≡ true → n ≤ 3 → ⊥
few_of true n whole few = let five : n ≡ 5 = eqb-true n 5 whole in omega (arith, five, few)
few_of false n whole few = let four : n ≡ 4 = eqb-true n 4 whole in omega (arith, four, few)

-- a whole header names a width and an end
pub numbers_of : (wide : Bool) (h : List ℕ) (d : ℕ) → (length h == (if wide then 5 else 4)) ≡ true → IsHeader h → HasNumbers (nth 1 h 1) (nth d h 3)
numbers_of wide [] d whole k = absurd (few_of wide 0 whole (omega arith))
numbers_of wide (v ∷ []) d whole k = absurd (few_of wide 1 whole (omega arith))
numbers_of wide (v ∷ w ∷ []) d whole k = absurd (few_of wide 2 whole (omega arith))
numbers_of wide (v ∷ w ∷ dl ∷ []) d whole k = absurd (few_of wide 3 whole (omega arith))
numbers_of wide (v ∷ w ∷ dl ∷ e ∷ rest) d whole k = record { width = k.0; end = k.1 }

-- the end of input lacks nothing only behind `begin`
pub begun_at_end : (begun waiting : Bool) (n : Reason) → (if not begun || waiting then Some n else None) ≡ None → begun ≡ true
begun_at_end true waiting n e = refl
begun_at_end false waiting n e = absurd cc

clients_there : (plan : Plan) (cs : List ClientSpec) → list_all (λ (c : ClientSpec). is_within (length plan.sources) (length plan.frags) c.input) cs ≡ true → list_all (λ (c : ClientSpec). is_there plan c.input) cs ≡ true
clients_there plan cs h = h

pub has_form : (d : Draft) → IsRead d → HasForm (script_of d)
has_form d read =
    let f = read.fitted.form in
    let begun = begun_at_end d.begun (not (is_nil d.directives)) PartMissing read.ended in
    let whole = f.parts.whole begun in
    let numbers : HasNumbers (nth 1 d.header 1) (plan_of d).end = numbers_of (is_wide d) d.header _ whole.header f.parts.header in
    let plan = plan_of d in
    let width = numbers.width in
    let end = numbers.end in
    let all : 0 + length d.frags ≤ length d.frags = omega arith in
    let clocks = f.clocks in
    let same : length (map (λ (p : Phase). p.now) d.phases) ≡ length d.phases = length-map d.phases (λ (p : Phase). p.now) in
    let few = clocks.1 in
    record {
      width = omega (arith, width);
      whole = end.2;
      begins = end.0;
      ends = end.1;
      few_buckets = end.3;
      sound = record { logs = logs_in_order plan (in_order d.sources f.sources.ordered); ops = f.frags.sound; inputs = read_before (length d.sources) 0 d.frags f.frags.reads };
      sizes = f.frags.sizes;
      inputs = all_there plan 0 d.frags all f.frags.reads;
      clients = clients_there plan d.clients f.clients;
      logs = f.sources.fit;
      few_entries = f.sources.few;
      once = f.frags.once;
      distinct = f.distinct;
      some_source = whole.source;
      some_frag = whole.frag;
      some_client = whole.client;
      clocks = ordered-map (λ (p : Phase). p.now) d.phases clocks.0;
      few_phases = omega (arith, few, same);
    }

-- each fragment has an operator, reads what is there, and its operators fit
pub frags_fit : (plan : Plan) (fs : List FragSpec) → list_any (λ (f : FragSpec). is_nil f.ops) fs ≡ false → list_all (λ (f : FragSpec). list_all (is_there plan) f.inputs) fs ≡ true →
    list_all (λ (f : FragSpec). ops_fit (map (stream_columns plan) f.inputs) [] f.ops) fs ≡ true → list_all (frag_fits plan) fs ≡ true
frags_fit plan [] some there fit = refl
frags_fit plan (f ∷ fs) some there fit =
    let a = or_parts (is_nil f.ops) (list_any (λ (g : FragSpec). is_nil g.ops) fs) some in
    let b = and_parts (list_all (is_there plan) f.inputs) (list_all (λ (g : FragSpec). list_all (is_there plan) g.inputs) fs) there in
    let c = and_parts (ops_fit (map (stream_columns plan) f.inputs) [] f.ops) (list_all (λ (g : FragSpec). ops_fit (map (stream_columns plan) g.inputs) [] g.ops) fs) fit in
    rw (a.0, b.0, c.0, frags_fit plan fs a.1 b.1 c.1) refl

pub has_facts : (d : Draft) → IsRead d → HasFacts (script_of d)
has_facts d read =
    let form = has_form d read in
    let k = read.fitted in
    let plan = plan_of d in
    let begun = begun_at_end d.begun (not (is_nil d.directives)) PartMissing read.ended in
    let ops = all_fit plan [] d.frags (all_columns plan [] d.frags) (length d.sources) 0 refl k.form.frags.reads k.frags in
    let named = flat_map (λ (p : Phase). p.directives) d.phases in
    let directives = and_parts (list_all (directive_fits plan) named) (list_all (directive_fits plan) d.directives) (sym (list_all-append (directive_fits plan) named d.directives) ∙ k.directives.fit) in
    record { form = form; frags = frags_fit plan d.frags (k.directives.some_op begun) form.inputs ops; directives = directives.0 }

concluded_facts : (r : Result Draft PlanFault) (s : Script) → ((d : Draft) → r ≡ Ok d → IsRead d) → script_in (concluded r) ≡ Some s → HasFacts s
concluded_facts (Ok d) s reads e = let same : script_of d ≡ s = cc in subst HasFacts same (has_facts d (reads d refl))
concluded_facts (Err fault) s reads e = absurd cc

pub reads_have_facts : ReadsHaveFacts
unfolding reading
reads_have_facts text s =
    elim (is_too_large_text text) as (λ b. script_in (if b then Err (record { line = 0; reason = PastLimit }) else concluded (read_from 1 nothing_yet (lines_of text))) ≡ Some s → HasFacts s) [
      | true ↦ λ e. absurd cc
      | false ↦ λ e. concluded_facts (read_from 1 nothing_yet (lines_of text)) s (λ d is. lines_fitted 1 nothing_yet d (lines_of text) is nothing_fitted) e
    ]

pub reads_have_form : ReadsHaveForm
reads_have_form text s e = (reads_have_facts text s e).form
