-- A script and what stands behind it are taken apart as they were put together.
use Rattle.std.proofs.Common.{◌≡◌, ℕ, suc, ◌+◌, true, false, ◌||◌, cond, List, [], ◌∷◌, ◌++◌, length, drop, take, Some, None, refl, sym, ap, ◌∙◌, subst, arith}
use Rattle.std.specs.Prelude.{◌==◌, not, filter, if◌then◌else◌, bytes_eq, Result, Ok, Err}
use Rattle.std.proofs.lemmas.Bool.{eqb-true}
use Rattle.std.proofs.lemmas.List.{append_assoc}
use Rattle.dpc_lists.specs.Lists.{is_nil, list_any}
use Rattle.dpc_model.specs.Words.{Word}
use Rattle.dpc_model.specs.declared.scripts.Script.{Script}
use Rattle.script_rules.specs.declared.reasons.Reason.TheVariants.{ForeignByte, PastLimit}
use Rattle.script_rules.specs.declared.reasons.PlanFault.{PlanFault}
use Rattle.script_rules.specs.Keywords.{keyword_of}
use Rattle.script_rules.specs.Lines.{in_front, pieces, lines_of, words_of, is_skipped}
use Rattle.script_rules.specs.Statements.{word}
use Rattle.script_rules.specs.Drafts.{Draft, nothing_yet, version_of}
use Rattle.script_rules.specs.Reasons.{has_foreign_byte, first_of_tests, tests_of_words, keyword_in, tests_unless_skipped}
use Rattle.script_rules.specs.Reading.{fault_of, with_line, read_from, is_too_large_text, concluded, reading, read, script_in}
use Rattle.script_rules.proofs.Apart.{same_word}
use Rattle.script_rules.proofs.ReadForms.{further_tests}
use Rattle.input_parts.specs.Parts.{begins, bytes_before, part_before, part_from}
use Rattle.input_parts.proofs.Places.{bytes_of_lines}

-- ---- no line of a script begins with the key

-- a key that begins no line of a script
pub record IsApart (key : Word) : Type 0 where
  pub some : bytes_eq [] key ≡ false
  pub keyword : (version : ℕ) → keyword_of version key ≡ None
  pub hash : (ps : List (List ℕ)) → bytes_eq (word (filter (λ w. not (is_nil w)) (in_front 35 ps)) 0) key ≡ false

module _ (key : Word) (apart : IsApart key) where
  no_key_word : (d : Draft) (words : List Word) → first_of_tests (tests_of_words d (keyword_in d words) (drop 1 words)) ≡ None → bytes_eq (word words 0) key ≡ false
  no_key_word d [] none = apart.some
  no_key_word d (w ∷ words) none =
      (elim (bytes_eq w key) as (λ t. bytes_eq w key ≡ t → t ≡ false) [
        | true ↦ λ is.
            let key : keyword_of (version_of d) w ≡ None = ap (keyword_of (version_of d)) (same_word w key is) ∙ apart.keyword (version_of d) in
            let wrong = subst (λ o. first_of_tests (tests_of_words d o words) ≡ None) key none in
            absurd cc
        | false ↦ λ is. refl
      ]) refl

  skipped_line : (line : List ℕ) → is_skipped line ≡ true → begins key line ≡ false
  skipped_line [] h = apart.some
  skipped_line (b ∷ line) h =
      (elim (b == 35) as (λ t. (b == 35) ≡ t → (t || is_nil (words_of (b ∷ line))) ≡ true → begins key (b ∷ line) ≡ false) [
        | true ↦ λ is h.
            let same : b ≡ 35 = eqb-true b 35 is in
            ap (λ x. begins key (x ∷ line)) same ∙ apart.hash (pieces 32 line)
        | false ↦ λ is h. no_words (words_of (b ∷ line)) h
      ]) refl h
    where
      no_words : (words : List Word) → is_nil words ≡ true → bytes_eq (word words 0) key ≡ false
      no_words [] h = apart.some
      no_words (w ∷ words) h = absurd cc

  line_of_script : (d : Draft) (line : List ℕ) → fault_of d line ≡ None → begins key line ≡ false
  unfolding fault_of
  line_of_script d line none =
      (elim (is_skipped line) as (λ b. is_skipped line ≡ b → first_of_tests (tests_unless_skipped b d (words_of line)) ≡ None → begins key line ≡ false) [
        | true ↦ λ is e. skipped_line line is
        | false ↦ λ is e. no_key_word d (words_of line) e
      ]) refl (further_tests (has_foreign_byte line) ForeignByte (tests_unless_skipped (is_skipped line) d (words_of line)) none)

  lines_of_script : (n : ℕ) (d e : Draft) (lines : List (List ℕ)) → read_from n d lines ≡ Ok e → list_any (begins key) lines ≡ false
  lines_of_script n d e [] reads = refl
  lines_of_script n d e (line ∷ lines) reads =
      (elim (fault_of d line) as (λ o. fault_of d line ≡ o → (elim o as (λ o. Result Draft PlanFault) [ None ↦ read_from (n + 1) (with_line d line) lines | Some r ↦ Err (record { line = n; reason = r }) ]) ≡ Ok e →
      (begins key line || list_any (begins key) lines) ≡ false) [
        | None ↦ λ is reads. ap (λ t. t || list_any (begins key) lines) (line_of_script d line is) ∙ lines_of_script (n + 1) (with_line d line) e lines reads
        | Some r ↦ λ is reads. absurd cc
      ]) refl reads

  pub script_has_none : (text : List ℕ) (s : Script) → read text ≡ Some s → list_any (begins key) (lines_of text) ≡ false
  unfolding reading
  script_has_none text s =
      elim (is_too_large_text text) as (λ b. script_in (if b then Err (record { line = 0; reason = PastLimit }) else concluded (read_from 1 nothing_yet (lines_of text))) ≡ Some s → list_any (begins key) (lines_of text) ≡ false) [
        | true ↦ λ e. absurd cc
        | false ↦ λ e. all_lines (read_from 1 nothing_yet (lines_of text)) refl e
      ]
    where
      all_lines : (r : Result Draft PlanFault) → read_from 1 nothing_yet (lines_of text) ≡ r → script_in (concluded r) ≡ Some s → list_any (begins key) (lines_of text) ≡ false
      all_lines (Ok d) is e = lines_of_script 1 nothing_yet d (lines_of text) is
      all_lines (Err fault) is e = absurd cc

-- ---- lines of a text that ends with LF, and of what stands behind it

record IsSome (lines : List (List ℕ)) : Type 0 where
  first : List ℕ
  rest : List (List ℕ)
  are : lines ≡ first ∷ rest

some_line : (front : List ℕ) → IsSome (lines_of (front ++ 10 ∷ []))
some_line [] = record { first = []; rest = []; are = refl }
some_line (b ∷ front) =
    let rest = some_line front in
    elim (b == 10) as (λ t. IsSome (cond t ([] ∷ lines_of (front ++ 10 ∷ [])) (in_front b (lines_of (front ++ 10 ∷ []))))) [
      | true ↦ record { first = []; rest = lines_of (front ++ 10 ∷ []); are = refl }
      | false ↦ record { first = b ∷ rest.first; rest = rest.rest; are = ap (in_front b) rest.are }
    ]

front_append : (b : ℕ) (lines more : List (List ℕ)) → IsSome lines → in_front b (lines ++ more) ≡ in_front b lines ++ more
front_append b [] more some = let wrong = some.are in absurd cc
front_append b (line ∷ lines) more some = refl

pub lines_behind : (front text : List ℕ) → lines_of (front ++ 10 ∷ text) ≡ lines_of (front ++ 10 ∷ []) ++ lines_of text
lines_behind [] text = refl
lines_behind (b ∷ front) text =
    let rest = lines_behind front text in
    elim (b == 10) as (λ t. cond t ([] ∷ lines_of (front ++ 10 ∷ text)) (in_front b (lines_of (front ++ 10 ∷ text)))
    ≡ cond t ([] ∷ lines_of (front ++ 10 ∷ [])) (in_front b (lines_of (front ++ 10 ∷ []))) ++ lines_of text) [
      | true ↦ ap (λ l. [] ∷ l) rest
      | false ↦ ap (in_front b) rest ∙ front_append b (lines_of (front ++ 10 ∷ [])) (lines_of text) (some_line front)
    ]

bytes_in_front : (b : ℕ) (lines : List (List ℕ)) → IsSome lines → bytes_of_lines (in_front b lines) ≡ 1 + bytes_of_lines lines
bytes_in_front b [] some = let wrong = some.are in absurd cc
bytes_in_front b (line ∷ lines) some = omega arith

bytes_of_front : (front : List ℕ) → bytes_of_lines (lines_of (front ++ 10 ∷ [])) ≡ length (front ++ 10 ∷ [])
bytes_of_front [] = refl
bytes_of_front (b ∷ front) =
    let rest = bytes_of_front front in
    let own = bytes_in_front b (lines_of (front ++ 10 ∷ [])) (some_line front) in
    elim (b == 10) as (λ t. bytes_of_lines (cond t ([] ∷ lines_of (front ++ 10 ∷ [])) (in_front b (lines_of (front ++ 10 ∷ [])))) ≡ suc (length (front ++ 10 ∷ []))) [
      | true ↦ omega (arith, rest)
      | false ↦ omega (arith, own, rest)
    ]

-- ---- lines none of which begins with the key, in front of one that does

module _ (key : Word) where
  before_key : (lines rest : List (List ℕ)) (line : List ℕ) → list_any (begins key) lines ≡ false → begins key line ≡ true →
      bytes_before key (lines ++ line ∷ rest) ≡ bytes_of_lines lines
  before_key [] rest line none is = ap (λ t. cond t 0 (length line + 1 + bytes_before key rest)) is
  before_key (l ∷ lines) rest line none is =
      (elim (begins key l) as (λ t. (t || list_any (begins key) lines) ≡ false → cond t 0 (length l + 1 + bytes_before key (lines ++ line ∷ rest)) ≡ length l + 1 + bytes_of_lines lines) [
        | true ↦ λ k. absurd cc
        | false ↦ λ k. ap (λ n. length l + 1 + n) (before_key lines rest line k is)
      ]) none

  some_key : (lines rest : List (List ℕ)) (line : List ℕ) → begins key line ≡ true → list_any (begins key) (lines ++ line ∷ rest) ≡ true
  some_key [] rest line is = ap (λ t. t || list_any (begins key) rest) is
  some_key (l ∷ lines) rest line is =
      elim (begins key l) as (λ t. (t || list_any (begins key) (lines ++ line ∷ rest)) ≡ true) [
        | true ↦ refl
        | false ↦ some_key lines rest line is
      ]

-- ---- the two parts

take_front : (xs ys : List ℕ) → take (length xs) (xs ++ ys) ≡ xs
take_front [] ys = refl
take_front (x ∷ xs) ys = ap (λ l. x ∷ l) (take_front xs ys)

drop_front : (xs ys : List ℕ) → drop (length xs) (xs ++ ys) ≡ ys
drop_front [] ys = refl
drop_front (x ∷ xs) ys = drop_front xs ys

module _ (key : Word) where
  pub record AreParts (script journal : List ℕ) : Type 0 where
    pub script_is : part_before key (script ++ journal) ≡ script
    pub journal_is : part_from key (script ++ journal) ≡ Some journal

  pub are_parts : (front script journal line : List ℕ) (rest : List (List ℕ)) → script ≡ front ++ 10 ∷ [] → list_any (begins key) (lines_of script) ≡ false → lines_of journal ≡ line ∷ rest →
      begins key line ≡ true → AreParts script journal
  unfolding part_before part_from
  are_parts front script journal line rest e none first is =
      let whole = script ++ journal in
      let same : whole ≡ front ++ 10 ∷ journal = ap (λ x. x ++ journal) e ∙ append_assoc front (10 ∷ []) journal in
      let lines : lines_of whole ≡ lines_of script ++ line ∷ rest =
      ap lines_of same ∙ lines_behind front journal ∙ ap (λ x. lines_of x ++ lines_of journal) (sym e) ∙ ap (λ x. lines_of script ++ x) first in
      let many : bytes_before key (lines_of whole) ≡ length script =
      ap (bytes_before key) lines ∙ before_key key (lines_of script) rest line none is ∙ ap (λ x. bytes_of_lines (lines_of x)) e ∙ bytes_of_front front ∙ ap length (sym e) in
      let some : list_any (begins key) (lines_of whole) ≡ true = ap (list_any (begins key)) lines ∙ some_key key (lines_of script) rest line is in
      record {
        script_is = ap (λ n. take n whole) many ∙ take_front script journal;
        journal_is = ap (λ t. if t then Some (drop (bytes_before key (lines_of whole)) whole) else None) some ∙ ap (λ n. Some (drop n whole)) many ∙ ap (λ l. Some l) (drop_front script journal);
      }
