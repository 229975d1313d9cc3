-- A canonical text is what is printed of the script that it is read as.
use Rattle.std.proofs.Common.{◌≡◌, ℕ, ◌+◌, true, false, List, [], ◌∷◌, map, drop, Option, Some, None, refl, sym, ap, subst, ◌∙◌}
use Rattle.std.specs.Prelude.{Result, Ok, Err, if◌then◌else◌}
use Rattle.std.proofs.lemmas.Bool.{not-false, or_parts}
use Rattle.dpc_lists.specs.Lists.{list_any, nth}
use Rattle.dpc_model.specs.Words.{Word, text_of}
use Rattle.dpc_model.specs.ScriptText.{script_text}
use Rattle.dpc_model.specs.declared.scripts.Script.{Script}
use Rattle.script_rules.specs.declared.reasons.Reason.TheVariants.{ForeignByte, PastLimit}
use Rattle.script_rules.specs.declared.reasons.PlanFault.{PlanFault}
use Rattle.script_rules.specs.Lines.{lines_of, words_of, is_skipped}
use Rattle.script_rules.specs.declared.keywords.Keyword.{Keyword}
use Rattle.script_rules.specs.Keywords.{keyword_of}
use Rattle.script_rules.specs.Places.{places_of}
use Rattle.script_rules.specs.Statements.{Statement, statement_of}
use Rattle.script_rules.specs.Drafts.{Draft, nothing_yet, version_of, is_wide, end_of, and_then, script_of}
use Rattle.script_rules.specs.Reasons.{has_foreign_byte, is_its_part, first_of_tests, tests_said, tests_of_words, keyword_in, tests_unless_skipped}
use Rattle.script_rules.specs.Reading.{fault_of, with_words, with_line, fault_of_end, read_from, is_too_large_text, concluded, reading, script_in}
use Rattle.script_rules.specs.Checking.{statements_of}
use Rattle.script_rules.specs.Canonical.{IsCanonical, logs_follow}
use Rattle.script_rules.specs.Laws.{PrintsBack}
use Rattle.script_rules.proofs.Passing.{none_holds, is_fine}
use Rattle.script_rules.proofs.Placed.{is_placed}
use Rattle.script_rules.proofs.ReadForms.{none_found, further_tests, nothing_fitted, HasNumbers, numbers_of}
use Rattle.law_scripts.proofs.Filling.{fills}
use Rattle.law_scripts.proofs.Saying.{words_said, first_word}
use Rattle.law_scripts.proofs.LinesWritten.{HasLowEnd, line_written}
use Rattle.law_scripts.proofs.SaidSoFar.{said_then, Grows}
use Rattle.law_scripts.proofs.Growing.{IsUnderWay, nothing_under_way, IsLine, line_steps}
use Rattle.law_scripts.proofs.Ending.{said_in_the_end, statement_words}
use Rattle.law_scripts.proofs.Canonical.{is_text}

-- ---- a line

-- what a line says, and the state behind it
record IsSaid (last : Word) (d e : Draft) (words : List Word) (lines : List (List Word)) : Type 0 where
  said : Statement
  written : words ≡ words_said said
  after : e ≡ and_then d said
  grows : Grows d said
  next : Word
  follow : logs_follow next lines ≡ true
  state : IsUnderWay next (and_then d said)

-- the end is low where it is known
pub low_end : (last : Word) (d : Draft) → IsUnderWay last d → HasLowEnd d
low_end last d u whole =
    let numbers : HasNumbers (nth 1 d.header 1) (end_of d) = numbers_of (is_wide d) d.header _ whole u.fitted.form.parts.header in
    numbers.end.1

with_keyword : (last : Word) (d : Draft) (w : Word) (k : Keyword) (ws : List Word) (lines : List (List Word)) → keyword_of (version_of d) w ≡ Some k → first_of_tests (tests_of_words d (Some k) ws) ≡ None →
    logs_follow last ((w ∷ ws) ∷ lines) ≡ true → IsUnderWay last d → IsSaid last d (with_words d (Some k) ws) (w ∷ ws) lines
with_keyword last d w k ws lines e none follow u =
    let test_2 = none_holds (tests_of_words d (Some k) ws) none in
    let test_3 = test_2.1 in
    let test_4 = test_3.1 in
    let test_5 = test_4.1 in
    let test_6 = test_5.1 in
    let s = statement_of k ws in
    let fine = is_fine d s (none_found (tests_said d s) test_6.1) in
    let first = first_word (version_of d) w k e in
    let filled = fills (places_of d k) ws test_3.0 test_2.0 test_4.0 test_5.0 in
    let part : is_its_part d k ≡ true = not-false (is_its_part d k) test_6.0 in
    let line : IsLine last d k ws = record {
      known = first.1;
      fills = filled;
      part = part;
      fine = fine;
      placed = is_placed d k w ws e test_3.0 test_5.0 test_6.0 fine;
      state = u;
    } in
    let step = line_steps last d k ws lines line (ap (λ v. logs_follow last ((v ∷ ws) ∷ lines)) (sym first.0) ∙ follow) in
    record {
      said = s;
      written = ap (λ v. v ∷ ws) first.0 ∙ line_written d k ws first.1 (low_end last d u) (λ begun. (u.fitted.form.parts.whole begun).header) filled part fine;
      after = refl;
      grows = step.grows;
      next = step.next;
      follow = step.follow;
      state = step.state;
    }

with_first : (last : Word) (d : Draft) (w : Word) (ws : List Word) (lines : List (List Word)) (o : Option Keyword) → keyword_of (version_of d) w ≡ o → first_of_tests (tests_of_words d o ws) ≡ None →
    logs_follow last ((w ∷ ws) ∷ lines) ≡ true → IsUnderWay last d → IsSaid last d (with_words d o ws) (w ∷ ws) lines
with_first last d w ws lines None e none follow u = absurd cc
with_first last d w ws lines (Some k) e none follow u = with_keyword last d w k ws lines e none follow u

with_its_words : (last : Word) (d : Draft) (words : List Word) (lines : List (List Word)) → first_of_tests (tests_of_words d (keyword_in d words) (drop 1 words)) ≡ None →
    logs_follow last (words ∷ lines) ≡ true → IsUnderWay last d → IsSaid last d (with_words d (keyword_in d words) (drop 1 words)) words lines
with_its_words last d [] lines none follow u = absurd cc
with_its_words last d (w ∷ ws) lines none follow u = with_first last d w ws lines (keyword_of (version_of d) w) refl none follow u

line_said : (last : Word) (d : Draft) (line : List ℕ) (lines : List (List Word)) → fault_of d line ≡ None → is_skipped line ≡ false → logs_follow last (words_of line ∷ lines) ≡ true → IsUnderWay last d →
    IsSaid last d (with_line d line) (words_of line) lines
unfolding fault_of with_line
line_said last d line lines none kept follow u =
    let tests = further_tests (has_foreign_byte line) ForeignByte (tests_unless_skipped (is_skipped line) d (words_of line)) none in
    let here : first_of_tests (tests_of_words d (keyword_in d (words_of line)) (drop 1 (words_of line))) ≡ None = ap (λ b. first_of_tests (tests_unless_skipped b d (words_of line))) (sym kept) ∙ tests in
    subst (λ b. IsSaid last d (if b then d else with_words d (keyword_in d (words_of line)) (drop 1 (words_of line))) (words_of line) lines) (sym kept)
    (with_its_words last d (words_of line) lines here follow u)

-- ---- lines

-- what lines say, one behind another, up to the end
record AreSaid (d e : Draft) (lines : List (List ℕ)) : Type 0 where
  said : List Statement
  written : map words_of lines ≡ map words_said said
  grown : said_then d said ≡ said_then e []
  last : Word
  state : IsUnderWay last e
  ended : fault_of_end e ≡ None

one_more : (last : Word) (d e : Draft) (line : List ℕ) (lines : List (List ℕ)) → (s : IsSaid last d (with_line d line) (words_of line) (map words_of lines)) → AreSaid (and_then d s.said) e lines → AreSaid d e (line ∷ lines)
one_more last d e line lines s more =
    record {
      said = s.said ∷ more.said;
      written = ap (λ l. l ∷ map words_of lines) s.written ∙ ap (λ l. words_said s.said ∷ l) more.written;
      grown = sym (s.grows more.said) ∙ more.grown;
      last = more.last;
      state = more.state;
      ended = more.ended;
    }

lines_said : (n : ℕ) (last : Word) (d e : Draft) (lines : List (List ℕ)) → read_from n d lines ≡ Ok e → list_any is_skipped lines ≡ false → logs_follow last (map words_of lines) ≡ true → IsUnderWay last d → AreSaid d e lines
lines_said n last d e [] reads kept follow u =
    (elim (fault_of_end d) as (λ o. fault_of_end d ≡ o → (elim o as (λ o. Result Draft PlanFault) [ None ↦ Ok d | Some r ↦ Err (record { line = n; reason = r }) ]) ≡ Ok e → AreSaid d e []) [
      | None ↦ λ is reads.
          let same : d ≡ e = cc in
          subst (λ x. AreSaid d x []) same (record { said = []; written = refl; grown = refl; last = last; state = u; ended = is })
      | Some r ↦ λ is reads. absurd cc
    ]) refl reads
lines_said n last d e (line ∷ lines) reads kept follow u =
    let skips = or_parts (is_skipped line) (list_any is_skipped lines) kept in
    (elim (fault_of d line) as (λ o. fault_of d line ≡ o → (elim o as (λ o. Result Draft PlanFault) [ None ↦ read_from (n + 1) (with_line d line) lines | Some r ↦ Err (record { line = n; reason = r }) ]) ≡ Ok e → AreSaid d e (line ∷ lines)) [
      | None ↦ λ is reads.
          let s = line_said last d line (map words_of lines) is skips.0 follow u in
          one_more last d e line lines s (lines_said (n + 1) s.next (and_then d s.said) e lines (ap (λ x. read_from (n + 1) x lines) (sym s.after) ∙ reads) skips.1 s.follow s.state)
      | Some r ↦ λ is reads. absurd cc
    ]) refl reads

-- ---- the law

-- a canonical text with lines that say this
text_is : (text : List ℕ) (e : Draft) → AreSaid nothing_yet e (lines_of text) → IsCanonical text → text ≡ script_text (script_of e)
text_is text e a c =
    let whole = a.state.fitted.form.parts.whole in
    let said : a.said ≡ statements_of (script_of e) = a.grown ∙ said_in_the_end e a.ended (λ begun. (whole begun).header) a.state.flag in
    c.spaced ∙ ap text_of (a.written ∙ ap (map words_said) said ∙ statement_words (script_of e)) ∙ sym (is_text (script_of e))

concluded_text : (text : List ℕ) (r : Result Draft PlanFault) (s : Script) → ((e : Draft) → r ≡ Ok e → text ≡ script_text (script_of e)) → script_in (concluded r) ≡ Some s → text ≡ script_text s
concluded_text text (Ok e) s reads h = let same : script_of e ≡ s = cc in subst (λ x. text ≡ script_text x) same (reads e refl)
concluded_text text (Err fault) s reads h = absurd cc

pub prints_back : PrintsBack
unfolding reading
prints_back text s h c =
    (elim (is_too_large_text text) as (λ b. script_in (if b then Err (record { line = 0; reason = PastLimit }) else concluded (read_from 1 nothing_yet (lines_of text))) ≡ Some s → text ≡ script_text s) [
      | true ↦ λ h. absurd cc
      | false ↦ λ h. concluded_text text (read_from 1 nothing_yet (lines_of text)) s (λ e is.
          text_is text e (lines_said 1 [] nothing_yet e (lines_of text) is c.nothing_skipped c.logs (nothing_under_way nothing_fitted)) c) h
    ]) h
