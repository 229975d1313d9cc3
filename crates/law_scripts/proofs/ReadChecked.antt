-- What is read is checked.
use Rattle.std.proofs.Common.{◌≡◌, ℕ, ◌+◌, true, false, List, [], ◌∷◌, drop, Option, Some, None, refl, subst}
use Rattle.std.specs.Prelude.{not, if◌then◌else◌, Result, Ok, Err}
use Rattle.std.proofs.lemmas.Bool.{not-false}
use Rattle.dpc_lists.specs.Lists.{is_nil}
use Rattle.dpc_model.specs.Words.{Word}
use Rattle.dpc_model.specs.declared.scripts.Script.{Script}
use Rattle.script_rules.specs.declared.reasons.Reason.TheVariants.{ForeignByte, PartMissing, PastLimit}
use Rattle.script_rules.specs.declared.reasons.PlanFault.{PlanFault}
use Rattle.script_rules.specs.Lines.{lines_of, words_of, is_skipped}
use Rattle.script_rules.specs.declared.keywords.Keyword.{Keyword}
use Rattle.script_rules.specs.Keywords.{keyword_of}
use Rattle.script_rules.specs.Places.{places_of}
use Rattle.script_rules.specs.Statements.{Statement, statement_of}
use Rattle.script_rules.specs.Drafts.{Draft, nothing_yet, version_of, script_of}
use Rattle.script_rules.specs.Reasons.{has_foreign_byte, is_its_part, first_of_tests, tests_said, tests_of_words, keyword_in, tests_unless_skipped}
use Rattle.script_rules.specs.Reading.{fault_of, with_words, with_line, fault_of_end, read_from, is_too_large_text, concluded, reading, script_in}
use Rattle.script_rules.specs.Checking.{check, IsChecked, statements_of}
use Rattle.script_rules.specs.Laws.{ReadsChecked}
use Rattle.script_rules.proofs.Passing.{Passes, none_holds, is_fine}
use Rattle.script_rules.proofs.Placed.{is_placed}
use Rattle.script_rules.proofs.ReadForms.{none_found, further_tests, nothing_fitted, begun_at_end}
use Rattle.law_scripts.proofs.Filling.{fills}
use Rattle.law_scripts.proofs.Saying.{first_word}
use Rattle.law_scripts.proofs.SaidSoFar.{last_name}
use Rattle.law_scripts.proofs.Growing.{nothing_under_way, IsLine}
use Rattle.law_scripts.proofs.Ending.{said_in_the_end}
use Rattle.law_scripts.proofs.Reread.{low_end}
use Rattle.law_scripts.proofs.Retold.{no_fault, IsTold, nothing_told, line_told}
use Rattle.law_scripts.proofs.LineRanges.{line_in_range}
use Rattle.law_scripts.proofs.RangesKept.{HasRangesSoFar, nothing_ranges, ranges_kept, ranges_at_end}

-- what every line keeps: the canonical text of what was said passes every test, and all is in its range
record IsKept (d : Draft) : Type 0 where
  told : IsTold d
  ranges : HasRangesSoFar d

-- ---- a line

with_keyword : (d : Draft) (w : Word) (k : Keyword) (ws : List Word) → keyword_of (version_of d) w ≡ Some k → first_of_tests (tests_of_words d (Some k) ws) ≡ None → IsKept d → IsKept (with_words d (Some k) ws)
with_keyword d w k ws e none kept =
    let test_2 = none_holds (tests_of_words d (Some k) ws) none in
    let test_3 = test_2.1 in
    let test_4 = test_3.1 in
    let test_5 = test_4.1 in
    let test_6 = test_5.1 in
    let s : Statement = statement_of k ws in
    let fine = is_fine d s (none_found (tests_said d s) test_6.1) in
    let u = kept.told.state in
    let line : IsLine (last_name d.sources) d k ws = record {
      known = (first_word (version_of d) w k e).1;
      fills = fills (places_of d k) ws test_3.0 test_2.0 test_4.0 test_5.0;
      part = not-false (is_its_part d k) test_6.0;
      fine = fine;
      placed = is_placed d k w ws e test_3.0 test_5.0 test_6.0 fine;
      state = u;
    } in
    let range = line_in_range d k w ws e (low_end (last_name d.sources) d u) line.fills line.part fine line.placed in
    record { told = line_told d k ws line kept.told; ranges = ranges_kept (last_name d.sources) d s u line.placed range kept.ranges }

with_first : (d : Draft) (w : Word) (ws : List Word) (o : Option Keyword) → keyword_of (version_of d) w ≡ o → first_of_tests (tests_of_words d o ws) ≡ None → IsKept d → IsKept (with_words d o ws)
with_first d w ws None e none kept = absurd cc
with_first d w ws (Some k) e none kept = with_keyword d w k ws e none kept

with_its_words : (d : Draft) (words : List Word) → first_of_tests (tests_of_words d (keyword_in d words) (drop 1 words)) ≡ None → IsKept d → IsKept (with_words d (keyword_in d words) (drop 1 words))
with_its_words d [] none kept = absurd cc
with_its_words d (w ∷ ws) none kept = with_first d w ws (keyword_of (version_of d) w) refl none kept

line_kept : (d : Draft) (line : List ℕ) → fault_of d line ≡ None → IsKept d → IsKept (with_line d line)
unfolding fault_of with_line
line_kept d line none kept =
    (elim (is_skipped line) as (λ b. first_of_tests (tests_unless_skipped b d (words_of line)) ≡ None → IsKept (if b then d else with_words d (keyword_in d (words_of line)) (drop 1 (words_of line)))) [
      | true ↦ λ e. kept
      | false ↦ λ e. with_its_words d (words_of line) e kept
    ]) (further_tests (has_foreign_byte line) ForeignByte (tests_unless_skipped (is_skipped line) d (words_of line)) none)

-- ---- all lines

record IsRead (d : Draft) : Type 0 where
  kept : IsKept d
  ended : fault_of_end d ≡ None

lines_kept : (n : ℕ) (d e : Draft) (lines : List (List ℕ)) → read_from n d lines ≡ Ok e → IsKept d → IsRead e
lines_kept n d e [] reads h =
    (elim (fault_of_end d) as (λ o. fault_of_end d ≡ o → (elim o as (λ o. Result Draft PlanFault) [ None ↦ Ok d | Some r ↦ Err (record { line = n; reason = r }) ]) ≡ Ok e → IsRead e) [
      | None ↦ λ is reads. let same : d ≡ e = cc in subst IsRead same (record { kept = h; ended = is })
      | Some r ↦ λ is reads. absurd cc
    ]) refl reads
lines_kept n d e (line ∷ lines) reads h =
    (elim (fault_of d line) as (λ o. fault_of d line ≡ o → (elim o as (λ o. Result Draft PlanFault) [ None ↦ read_from (n + 1) (with_line d line) lines | Some r ↦ Err (record { line = n; reason = r }) ]) ≡ Ok e → IsRead e) [
      | None ↦ λ is reads. lines_kept (n + 1) (with_line d line) e lines reads (line_kept d line is h)
      | Some r ↦ λ is reads. absurd cc
    ]) refl reads

-- ---- the law

nothing_kept : IsKept nothing_yet
nothing_kept = record { told = nothing_told (nothing_under_way nothing_fitted); ranges = nothing_ranges }

is_checked : (d : Draft) → IsRead d → IsChecked (script_of d)
unfolding check
is_checked d read =
    let told = read.kept.told in
    let whole = told.state.fitted.form.parts.whole in
    let begun = begun_at_end d.begun (not (is_nil d.directives)) PartMissing read.ended in
    let said = said_in_the_end d read.ended (λ begun. (whole begun).header) told.state.flag in
    record {
      in_range = ranges_at_end d (whole begun).header read.kept.ranges;
      faultless = no_fault 1 nothing_yet (statements_of (script_of d)) (subst (Passes nothing_yet) said told.retold.passes);
    }

concluded_checked : (r : Result Draft PlanFault) (s : Script) → ((d : Draft) → r ≡ Ok d → IsRead d) → script_in (concluded r) ≡ Some s → IsChecked s
concluded_checked (Ok d) s reads e = let same : script_of d ≡ s = cc in subst IsChecked same (is_checked d (reads d refl))
concluded_checked (Err fault) s reads e = absurd cc

pub reads_checked : ReadsChecked
unfolding reading
reads_checked text s =
    elim (is_too_large_text text) as (λ b. script_in (if b then Err (record { line = 0; reason = PastLimit }) else concluded (read_from 1 nothing_yet (lines_of text))) ≡ Some s → IsChecked s) [
      | true ↦ λ e. absurd cc
      | false ↦ λ e. concluded_checked (read_from 1 nothing_yet (lines_of text)) s (λ d is. lines_kept 1 nothing_yet d (lines_of text) is nothing_kept) e
    ]
