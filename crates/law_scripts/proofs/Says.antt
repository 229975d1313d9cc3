-- Lines that say statements, and what reading makes of them.
use Rattle.std.proofs.Common.{◌≡◌, ℕ, ◌+◌, Bool, true, false, List, [], ◌∷◌, ◌++◌, map, drop, Option, Some, None, refl, sym, ap, subst, ◌∙◌}
use Rattle.std.specs.Prelude.{not, if◌then◌else◌, Result, Ok, Err}
use Rattle.std.proofs.lemmas.Bool.{and_parts}
use Rattle.std.proofs.lemmas.List.{append_assoc}
use Rattle.dpc_lists.specs.Lists.{list_all}
use Rattle.dpc_model.specs.Words.{Word, spaced}
use Rattle.script_rules.specs.declared.reasons.Reason.{Reason}
use Rattle.script_rules.specs.declared.reasons.Reason.TheVariants.{ForeignByte, ForeignWord, WrongCount, NoNumber, OutOfRange, OutOfPart}
use Rattle.script_rules.specs.declared.reasons.PlanFault.{PlanFault}
use Rattle.script_rules.specs.declared.keywords.Keyword.{Keyword}
use Rattle.script_rules.specs.Lines.{words_of, is_skipped, begins_with_hash}
use Rattle.script_rules.specs.Keywords.{keyword_of}
use Rattle.script_rules.specs.Places.{places_of, is_foreign, is_no_number, is_out_of_range}
use Rattle.script_rules.specs.Statements.{Statement, statement_of}
use Rattle.script_rules.specs.Drafts.{Draft, version_of, and_then}
use Rattle.script_rules.specs.Reasons.{has_foreign_word, has_wrong_length, lacks_number, is_past_range, is_out_of_part, is_its_part, first_of_tests, tests_said, tests_of_words, keyword_in, tests_unless_skipped, tests_of, lacks_end}
use Rattle.script_rules.specs.Reading.{fault_of, with_words, with_line, read_from, concluded, fault_in}
use Rattle.script_rules.specs.Checking.{check_from}
use Rattle.script_rules.proofs.Passing.{all_said}
use Rattle.law_scripts.proofs.Lines.{is_plain, is_first, words_of-spaced, no_foreign_byte, not_skipped}
use Rattle.law_scripts.proofs.Fits.{Fits, nothing_over, none_breaks, all_plain}

-- behind what d says, a first word and those behind it are a line of some keyword that says s, and no reason stands against its words and its part
pub record SaysLine (d : Draft) (w : Word) (ws : List Word) (s : Statement) : Type 0 where
  pub keyword : Keyword
  pub known : keyword_of (version_of d) w ≡ Some keyword
  pub first : is_first w ≡ true
  pub fits : Fits (places_of d keyword) ws
  pub part : is_its_part d keyword ≡ true
  pub said : statement_of keyword ws ≡ s

-- lines that say statements, one each, up to a whole script
abbrev pub Says : Draft → List (List Word) → List Statement → Type 0
Says d [] [] = lacks_end d ≡ false
Says d [] (s ∷ ss) = ⊥
Says d ([] ∷ lines) ss = ⊥
Says d ((w ∷ ws) ∷ lines) [] = ⊥
Says d ((w ∷ ws) ∷ lines) (s ∷ ss) = SaysLine d w ws s × Says (and_then d s) lines ss

-- ---- a line

plain_line : (d : Draft) (w : Word) (ws : List Word) (s : Statement) → SaysLine d w ws s → list_all is_plain (w ∷ ws) ≡ true
plain_line d w ws s h =
    let plain : is_plain w ≡ true = (and_parts (is_plain w) (not (begins_with_hash w)) h.first).0 in
    rw (plain, all_plain (places_of d h.keyword) ws h.fits) refl

-- the reasons against the words of a line that says s
words_tested : (d : Draft) (w : Word) (ws : List Word) (s : Statement) (h : SaysLine d w ws s) → first_of_tests (tests_of_words d (Some h.keyword) ws) ≡ first_of_tests (tests_said d s)
words_tested d w ws s h =
    let places = places_of d h.keyword in
    let foreign : has_foreign_word d h.keyword ws ≡ false = none_breaks is_foreign (λ sort w h. h.sorted) places ws h.fits in
    let short : has_wrong_length d h.keyword ws ≡ false = nothing_over places ws h.fits in
    let number : lacks_number d h.keyword ws ≡ false = none_breaks is_no_number (λ sort w h. h.number) places ws h.fits in
    let range : is_past_range d h.keyword ws ≡ false = none_breaks is_out_of_range (λ sort w h. h.range) places ws h.fits in
    let part : is_out_of_part d h.keyword ≡ false = ap not h.part in
    let from_part : List (Bool × Reason) = (is_out_of_part d h.keyword, OutOfPart) ∷ tests_said d (statement_of h.keyword ws) in
    let from_range : List (Bool × Reason) = (is_past_range d h.keyword ws, OutOfRange) ∷ from_part in
    let from_number : List (Bool × Reason) = (lacks_number d h.keyword ws, NoNumber) ∷ from_range in
    let from_count : List (Bool × Reason) = (has_wrong_length d h.keyword ws, WrongCount) ∷ from_number in
    passed (has_foreign_word d h.keyword ws) ForeignWord from_count foreign ∙ passed (has_wrong_length d h.keyword ws) WrongCount from_number short ∙ passed (lacks_number d h.keyword ws) NoNumber from_range number
    ∙ passed (is_past_range d h.keyword ws) OutOfRange from_part range ∙ passed (is_out_of_part d h.keyword) OutOfPart (tests_said d (statement_of h.keyword ws)) part
    ∙ ap (λ s. first_of_tests (tests_said d s)) h.said
  where
    passed : (b : Bool) (r : Reason) (tests : List (Bool × Reason)) → b ≡ false → first_of_tests ((b, r) ∷ tests) ≡ first_of_tests tests
    passed b r tests e = rw e refl

line_tested : (d : Draft) (w : Word) (ws : List Word) (s : Statement) → SaysLine d w ws s → first_of_tests (tests_of d (spaced (w ∷ ws))) ≡ first_of_tests (tests_said d s)
line_tested d w ws s h =
    let line = spaced (w ∷ ws) in
    let plain : list_all is_plain (w ∷ ws) ≡ true = plain_line d w ws s h in
    let skipped : is_skipped line ≡ false = not_skipped w ws h.first (all_plain (places_of d h.keyword) ws h.fits) in
    ap (λ b. first_of_tests ((b, ForeignByte) ∷ tests_unless_skipped (is_skipped line) d (words_of line))) (no_foreign_byte (w ∷ ws) plain)
    ∙ ap (λ b. first_of_tests (tests_unless_skipped b d (words_of line))) skipped
    ∙ ap (λ l. first_of_tests (tests_of_words d (keyword_in d l) (drop 1 l))) (words_of-spaced (w ∷ ws) plain)
    ∙ ap (λ o. first_of_tests (tests_of_words d o ws)) h.known ∙ words_tested d w ws s h

-- such a line is refused as its statement, and says it
pub line_refused : (d : Draft) (w : Word) (ws : List Word) (s : Statement) → SaysLine d w ws s → fault_of d (spaced (w ∷ ws)) ≡ first_of_tests (tests_said d s)
unfolding fault_of
line_refused d w ws s h = line_tested d w ws s h

pub line_said : (d : Draft) (w : Word) (ws : List Word) (s : Statement) → SaysLine d w ws s → with_line d (spaced (w ∷ ws)) ≡ and_then d s
unfolding with_line
line_said d w ws s h =
    let line = spaced (w ∷ ws) in
    let skipped : is_skipped line ≡ false = not_skipped w ws h.first (all_plain (places_of d h.keyword) ws h.fits) in
    ap (λ b. if b then d else with_words d (keyword_in d (words_of line)) (drop 1 (words_of line))) skipped
    ∙ ap (λ l. with_words d (keyword_in d l) (drop 1 l)) (words_of-spaced (w ∷ ws) (plain_line d w ws s h)) ∙ ap (λ o. with_words d o ws) h.known
    ∙ ap (and_then d) h.said

-- ---- a text

-- two parts, taken together
pub joined : (d : Draft) (a b : List (List Word)) (l : List (List Word)) (x y z : List Statement) → Says d (a ++ (b ++ l)) (x ++ (y ++ z)) → Says d ((a ++ b) ++ l) ((x ++ y) ++ z)
joined d a b l x y z h =
    subst (λ lines. Says d lines ((x ++ y) ++ z)) (sym (append_assoc a b l)) (subst (Says d (a ++ (b ++ l))) (sym (append_assoc x y z)) h)

pub lines_plain : (d : Draft) (lines : List (List Word)) (ss : List Statement) → Says d lines ss → list_all (list_all is_plain) lines ≡ true
lines_plain d [] [] h = refl
lines_plain d [] (s ∷ ss) h = absurd h
lines_plain d ([] ∷ lines) ss h = absurd h
lines_plain d ((w ∷ ws) ∷ lines) [] h = absurd h
lines_plain d ((w ∷ ws) ∷ lines) (s ∷ ss) h = rw (plain_line d w ws s h.0, lines_plain (and_then d s) lines ss h.1) refl

-- what reading makes of statements
abbrev pub judged : ℕ → Draft → List Statement → Result Draft PlanFault
judged n d [] = Ok d
judged n d (s ∷ ss) =
    elim (first_of_tests (tests_said d s)) [ None ↦ judged (n + 1) (and_then d s) ss | Some r ↦ Err (record { line = n; reason = r }) ]

pub reads_as_judged : (n : ℕ) (d : Draft) (lines : List (List Word)) (ss : List Statement) → Says d lines ss → read_from n d (map spaced lines) ≡ judged n d ss
reads_as_judged n d [] [] h = rw (h, read_from) refl
reads_as_judged n d [] (s ∷ ss) h = absurd h
reads_as_judged n d ([] ∷ lines) ss h = absurd h
reads_as_judged n d ((w ∷ ws) ∷ lines) [] h = absurd h
reads_as_judged n d ((w ∷ ws) ∷ lines) (s ∷ ss) h =
    let fault : fault_of d (spaced (w ∷ ws)) ≡ first_of_tests (tests_said d s) = line_refused d w ws s h.0 in
    let says : with_line d (spaced (w ∷ ws)) ≡ and_then d s = line_said d w ws s h.0 in
    let rest : read_from (n + 1) (with_line d (spaced (w ∷ ws))) (map spaced lines) ≡ judged (n + 1) (and_then d s) ss =
    ap (λ e. read_from (n + 1) e (map spaced lines)) says ∙ reads_as_judged (n + 1) (and_then d s) lines ss h.1 in
    ap (λ o. elim o as (λ o. Result Draft PlanFault) [ None ↦ read_from (n + 1) (with_line d (spaced (w ∷ ws))) (map spaced lines) | Some r ↦ Err (record { line = n; reason = r }) ]) fault
    ∙ ap (λ x. elim (first_of_tests (tests_said d s)) as (λ o. Result Draft PlanFault) [ None ↦ x | Some r ↦ Err (record { line = n; reason = r }) ]) rest

-- that is a refusal where check refuses, and else all that is said
pub judged_refuses : (n : ℕ) (d : Draft) (ss : List Statement) → fault_in (concluded (judged n d ss)) ≡ check_from n d ss
judged_refuses n d [] = refl
judged_refuses n d (s ∷ ss) =
    elim (first_of_tests (tests_said d s)) as (λ o. fault_in (concluded (elim o as (λ o. Result Draft PlanFault) [ None ↦ judged (n + 1) (and_then d s) ss | Some r ↦ Err (record { line = n; reason = r }) ])) ≡ (elim o as (λ o. Option PlanFault) [ None ↦ check_from (n + 1) (and_then d s) ss | Some r ↦ Some (record { line = n; reason = r }) ])) [
      | None ↦ judged_refuses (n + 1) (and_then d s) ss
      | Some r ↦ refl
    ]

pub judged_reads : (n : ℕ) (d : Draft) (ss : List Statement) → check_from n d ss ≡ None → judged n d ss ≡ Ok (all_said d ss)
judged_reads n d [] h = refl
judged_reads n d (s ∷ ss) h =
    (elim (first_of_tests (tests_said d s)) as (λ o. (elim o as (λ o. Option PlanFault) [ None ↦ check_from (n + 1) (and_then d s) ss | Some r ↦ Some (record { line = n; reason = r }) ]) ≡ None → (elim o as (λ o. Result Draft PlanFault) [ None ↦ judged (n + 1) (and_then d s) ss | Some r ↦ Err (record { line = n; reason = r }) ]) ≡ Ok (all_said d (s ∷ ss))) [
      | None ↦ λ h. judged_reads (n + 1) (and_then d s) ss h
      | Some r ↦ λ h. absurd cc
    ]) h
