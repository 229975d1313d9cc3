-- What is said of a line, from what is said of its words.
use Rattle.std.specs.Prelude.{⊤, not}
use Rattle.std.proofs.Common.{◌≡◌, ℕ, suc, ◌+◌, ◌^◌, ◌<◌, ◌≤◌, true, false, cond, nat_lt, length, ◌==◌, List, [], ◌∷◌, ◌++◌, drop, None, Some, Result, Ok, Err, refl, subst, arith, bytes_eq, Bool, ap, ◌∙◌}
use Rattle.dpc_lists.specs.Lists.{nth}
use Rattle.dpc_model.specs.Words.{Word}
use Rattle.dpc_lists.proofs.Truths.{lt-test, not-less}
use Rattle.std.proofs.lemmas.Grind.{common_steps}
use Rattle.script_rules.specs.declared.reasons.Reason.{Reason}
use Rattle.script_rules.specs.declared.reasons.Reason.TheVariants.{ForeignByte, ForeignWord, WrongCount, NoNumber, OutOfRange, OutOfPart, PastLimit}
use Rattle.script_rules.specs.Lines.{is_skipped, words_of, lines_of, in_front}
use Rattle.script_rules.specs.Keywords.{looked_up, keywords, late_keywords, keyword_of}
use Rattle.script_rules.specs.declared.keywords.Keyword.{Keyword}
use Rattle.script_rules.specs.Drafts.{Draft, nothing_yet, version_of}
use Rattle.script_rules.specs.Statements.{statement_of}
use Rattle.script_rules.specs.Reasons.{has_foreign_byte, has_foreign_word, has_wrong_length, lacks_number, is_past_range, is_its_part, is_out_of_part, first_of_tests, tests_said, tests_of_words, keyword_in}
use Rattle.script_rules.specs.Reading.{reading, concluded, read_from, fault_of, with_line}
use Rattle.diagram_reader.specs.declared.faults.LineFault.{LineFault}
use Rattle.diagram_reader.specs.declared.faults.LineFault.TheVariants.{NoMemory, Refused}
use Rattle.script_words.specs.Faultless.{IsFaultless}
use Rattle.diagram_reader.specs.Readings.{IsLineOf, IsWordsOf, IsSaid, IsKeyword}

pub foreign_line : (d : Draft) (line : List ℕ) → has_foreign_byte line ≡ true → fault_of d line ≡ Some ForeignByte
unfolding fault_of
foreign_line d line e = rw e refl

pub skipped_line : (d : Draft) (line : List ℕ) → has_foreign_byte line ≡ false → is_skipped line ≡ true → (fault_of d line ≡ None) × (d ≡ with_line d line)
unfolding fault_of with_line
skipped_line d line e f = (rw (e, f) refl, rw f refl)

pub unknown_line : (d : Draft) (line : List ℕ) → has_foreign_byte line ≡ false → is_skipped line ≡ false → keyword_in d (words_of line) ≡ None → fault_of d line ≡ Some ForeignWord
unfolding fault_of
unknown_line d line e f g = rw (e, f, g) refl

pub taken_line : {X : Type 0} (old new : Draft) (line : List ℕ) (k : Keyword) (result : Result X LineFault) → has_foreign_byte line ≡ false → is_skipped line ≡ false →
    keyword_in old (words_of line) ≡ Some k → IsWordsOf old new k (drop 1 (words_of line)) result → IsLineOf old new line result
unfolding fault_of with_line
taken_line old new line k (Ok x) e f g h = (rw (e, f, g) h.0, rw (f, g) h.1)
taken_line old new line k (Err NoMemory) e f g h = tt
taken_line old new line k (Err (Refused reason)) e f g h = rw (e, f, g) h

-- words against which no reason stands leave the reasons against what the line says
words_pass : (d : Draft) (k : Keyword) (words : List Word) → IsFaultless d k words → is_its_part d k ≡ true → first_of_tests (tests_of_words d (Some k) words) ≡ first_of_tests (tests_said d (statement_of k words))
words_pass d k words f part =
    let from_part : List (Bool × Reason) = (is_out_of_part d k, OutOfPart) ∷ tests_said d (statement_of k words) in
    let from_range : List (Bool × Reason) = (is_past_range d k words, OutOfRange) ∷ from_part in
    let from_number : List (Bool × Reason) = (lacks_number d k words, NoNumber) ∷ from_range in
    let from_count : List (Bool × Reason) = (has_wrong_length d k words, WrongCount) ∷ from_number in
    passed (has_foreign_word d k words) ForeignWord from_count f.foreign ∙ passed (has_wrong_length d k words) WrongCount from_number f.length
    ∙ passed (lacks_number d k words) NoNumber from_range f.number ∙ passed (is_past_range d k words) OutOfRange from_part f.range
    ∙ passed (is_out_of_part d k) OutOfPart (tests_said d (statement_of k words)) (ap not part)
  where
    passed : (b : Bool) (r : Reason) (tests : List (Bool × Reason)) → b ≡ false → first_of_tests ((b, r) ∷ tests) ≡ first_of_tests tests
    passed b r tests e = rw e refl

pub taken_words : {X : Type 0} (old new : Draft) (k : Keyword) (words : List Word) (result : Result X LineFault) → IsFaultless old k words → is_its_part old k ≡ true →
    IsSaid old new (statement_of k words) result → IsWordsOf old new k words result
taken_words old new k words (Ok x) f part h = (words_pass old k words f part ∙ h.0, h.1)
taken_words old new k words (Err NoMemory) f part h = tt
taken_words old new k words (Err (Refused reason)) f part h = words_pass old k words f part ∙ h

-- the first word decides, also where there is none
pub first_word : (d : Draft) (words : List Word) → keyword_of (version_of d) (nth [] words 0) ≡ keyword_in d words
first_word d [] = (elim (version_of d == 3) as (λ b. (version_of d == 3) ≡ b → keyword_of (version_of d) [] ≡ None) [ true ↦ λ e. rw e refl | false ↦ λ e. rw e refl ]) refl
first_word d (w ∷ words) = refl

-- ---- keywords

-- each row of a table has a keyword that some word is
abbrev AreKeywords : List (Word × Keyword) → Type 0
AreKeywords [] = ⊤
AreKeywords (row ∷ rows) = IsKeyword row.1 × AreKeywords rows

looked_up-keyword : (rows : List (Word × Keyword)) (w : Word) (k : Keyword) → AreKeywords rows → looked_up rows w ≡ Some k → IsKeyword k
looked_up-keyword [] w k h e = absurd cc
looked_up-keyword (row ∷ rows) w k h e =
    (elim (bytes_eq row.0 w) as (λ b. bytes_eq row.0 w ≡ b → looked_up (row ∷ rows) w ≡ Some k → IsKeyword k) [
      | true ↦ λ f g. let same : row.1 ≡ k = some-same (rw f at g) in subst IsKeyword same h.0
      | false ↦ λ f g. looked_up-keyword rows w k h.1 (rw f at g)
    ]) refl e
  where
    some-same : {a b : Keyword} → Some a ≡ Some b → a ≡ b
    some-same e = cc

early : AreKeywords keywords
early = (omega arith, (omega arith, (omega arith, (omega arith, (tt, (tt, (tt, (tt, (tt, (tt, (tt, (tt, (tt, (tt, (tt, (tt, (tt, (tt, (tt, (tt, (tt, (tt, (tt, (tt, tt))))))))))))))))))))))))

late : AreKeywords (keywords ++ late_keywords)
late = (omega arith, (omega arith, (omega arith, (omega arith, (tt, (tt, (tt, (tt, (tt, (tt, (tt, (tt, (tt, (tt, (tt, (tt, (tt, (tt, (tt, (tt, (tt, (tt, (tt, (tt, (omega arith, (tt, tt))))))))))))))))))))))))))

pub known_keyword : (version : ℕ) (w : Word) (k : Keyword) → keyword_of version w ≡ Some k → IsKeyword k
known_keyword version w k e =
    (elim (version == 3) as (λ b. looked_up (cond b (keywords ++ late_keywords) keywords) w ≡ Some k → IsKeyword k) [
      | true ↦ λ f. looked_up-keyword (keywords ++ late_keywords) w k late f
      | false ↦ λ f. looked_up-keyword keywords w k early f
    ]) e

-- ---- the whole text

pub begun_reading : (text : List ℕ) → length text < 2 ^ 26 + 1 → reading text ≡ concluded (read_from 1 nothing_yet (lines_of text))
unfolding reading
begun_reading text l = let short : nat_lt (2 ^ 26) (length text) ≡ false = not-less (2 ^ 26) (length text) (omega (arith, l)) in rw short refl

-- a text has no more lines than bytes
pub few_lines : (text : List ℕ) → length (lines_of text) ≤ length text
few_lines [] = omega arith
few_lines (b ∷ bs) =
    let rest = few_lines bs in
    (elim (b == 10) as (λ c. length (cond c ([] ∷ lines_of bs) (in_front b (lines_of bs))) ≤ suc (length bs)) [
      | true ↦ omega (arith, rest)
      | false ↦ in-front (lines_of bs) rest
    ])
  where
    in-front : (lines : List (List ℕ)) → length lines ≤ length bs → length (in_front b lines) ≤ suc (length bs)
    in-front [] l = omega arith
    in-front (line ∷ lines) l = omega (arith, l)

pub long_reading : (text : List ℕ) → 2 ^ 26 < length text → reading text ≡ Err (record { line = 0; reason = PastLimit })
unfolding reading
long_reading text l = let long : nat_lt (2 ^ 26) (length text) ≡ true = lt-test (2 ^ 26) (length text) l in rw long refl
