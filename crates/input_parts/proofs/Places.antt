-- Where the first line that begins with a key word stands.
use Rattle.std.proofs.Common.{◌≡◌, ◌≢◌, ℕ, suc, ◌+◌, ◌-◌, ◌<◌, ◌≤◌, true, false, ◌||◌, cond, List, [], ◌∷◌, length, take, drop, Some, None, refl, sym, ap, ◌∙◌, arith}
use Rattle.std.specs.Prelude.{◌==◌, if◌then◌else◌, bytes_eq}
use Rattle.std.proofs.lemmas.List.{take_all, take_rest}
use Rattle.dpc_lists.specs.Lists.{list_any}
use Rattle.dpc_model.specs.Words.{Word}
use Rattle.script_rules.specs.Lines.{in_front, lines_of}
use Rattle.input_parts.specs.Parts.{begins, bytes_before, part_before, part_from}

-- ---- how many bytes lines take, each with its LF

abbrev pub bytes_of_lines : List (List ℕ) → ℕ
bytes_of_lines [] = 0
bytes_of_lines (line ∷ lines) = length line + 1 + bytes_of_lines lines

most : (b n : ℕ) (lines : List (List ℕ)) → bytes_of_lines lines ≤ n + 1 → bytes_of_lines (in_front b lines) ≤ suc n + 1
most b n [] h = omega arith
most b n (line ∷ lines) h = omega (arith, h)

-- the last line may lack it
pub at_most : (text : List ℕ) → bytes_of_lines (lines_of text) ≤ length text + 1
at_most [] = omega arith
at_most (b ∷ bs) =
    let rest = at_most bs in
    elim (b == 10) as (λ t. bytes_of_lines (cond t ([] ∷ lines_of bs) (in_front b (lines_of bs))) ≤ suc (length bs) + 1) [
      | true ↦ omega (arith, rest)
      | false ↦ most b (length bs) (lines_of bs) rest
    ]

least : (b n : ℕ) (lines : List (List ℕ)) → n ≤ bytes_of_lines lines → suc n ≤ bytes_of_lines (in_front b lines)
least b n [] h = omega (arith, h)
least b n (line ∷ lines) h = omega (arith, h)

pub at_least : (text : List ℕ) → length text ≤ bytes_of_lines (lines_of text)
at_least [] = omega arith
at_least (b ∷ bs) =
    let rest = at_least bs in
    elim (b == 10) as (λ t. suc (length bs) ≤ bytes_of_lines (cond t ([] ∷ lines_of bs) (in_front b (lines_of bs)))) [
      | true ↦ omega (arith, rest)
      | false ↦ least b (length bs) (lines_of bs) rest
    ]

module _ (key : Word) where
  -- ---- lines none of which begins with the key

  pub all_before : (lines : List (List ℕ)) → list_any (begins key) lines ≡ false → bytes_before key lines ≡ bytes_of_lines lines
  all_before [] h = refl
  all_before (line ∷ lines) h =
      (elim (begins key line) as (λ t. (t || list_any (begins key) lines) ≡ false → cond t 0 (length line + 1 + bytes_before key lines) ≡ length line + 1 + bytes_of_lines lines) [
        | true ↦ λ k. absurd cc
        | false ↦ λ k. ap (λ n. length line + 1 + n) (all_before lines k)
      ]) h

  -- ---- behind lines that do not begin with the key

  pub record IsAt (text : List ℕ) (place : ℕ) (left : List (List ℕ)) : Type 0 where
    pub any : list_any (begins key) left ≡ list_any (begins key) (lines_of text)
    pub before : place + bytes_before key left ≡ bytes_before key (lines_of text)
    pub within : place + bytes_of_lines left ≤ length text + 1

  pub at_start : (text : List ℕ) (left : List (List ℕ)) → left ≡ lines_of text → IsAt text 0 left
  at_start text left e =
      let most = at_most text in
      rw e (record { any = refl; before = omega arith; within = omega (arith, most) })

  pub one_more : (text line : List ℕ) (place next : ℕ) (left rest : List (List ℕ)) → IsAt text place left → left ≡ line ∷ rest → begins key line ≡ false →
      next ≡ place + (length line + 1) → IsAt text next rest
  one_more text line place next left rest h e other is =
      let any : list_any (begins key) left ≡ list_any (begins key) rest = ap (list_any (begins key)) e ∙ ap (λ t. t || list_any (begins key) rest) other in
      let before : bytes_before key left ≡ length line + 1 + bytes_before key rest = ap (bytes_before key) e ∙ ap (λ t. cond t 0 (length line + 1 + bytes_before key rest)) other in
      let all : bytes_of_lines left ≡ length line + 1 + bytes_of_lines rest = ap bytes_of_lines e in
      let was = h.before in
      let bound = h.within in
      record { any = sym any ∙ h.any; before = omega (arith, was, before, is); within = omega (arith, bound, all, is) }

  pub fits : (text line : List ℕ) (place : ℕ) (left rest : List (List ℕ)) → IsAt text place left → left ≡ line ∷ rest → place + (length line + 1) ≤ length text + 1
  fits text line place left rest h e =
      let all : bytes_of_lines left ≡ length line + 1 + bytes_of_lines rest = ap bytes_of_lines e in
      let bound = h.within in
      omega (arith, bound, all)

  no_key : (k : Word) → k ≢ [] → bytes_eq [] k ≡ true → ⊥
  no_key [] some h = some refl
  no_key (b ∷ bs) some h = absurd cc

  some_byte : (line : List ℕ) → key ≢ [] → begins key line ≡ true → 1 ≤ length line
  some_byte [] some h = absurd (no_key key some h)
  some_byte (b ∷ line) some h = omega arith

  pub found : key ≢ [] → (text line : List ℕ) (place : ℕ) (left rest : List (List ℕ)) → IsAt text place left → left ≡ line ∷ rest → begins key line ≡ true →
      (list_any (begins key) (lines_of text) ≡ true) × (place ≡ bytes_before key (lines_of text)) × (place < length text)
  found some text line place left rest h e is =
      let any : list_any (begins key) left ≡ true = ap (list_any (begins key)) e ∙ ap (λ t. t || list_any (begins key) rest) is in
      let before : bytes_before key left ≡ 0 = ap (bytes_before key) e ∙ ap (λ t. cond t 0 (length line + 1 + bytes_before key rest)) is in
      let all : bytes_of_lines left ≡ length line + 1 + bytes_of_lines rest = ap bytes_of_lines e in
      let was = h.before in
      let bound = h.within in
      let byte = some_byte line some is in
      (sym h.any ∙ any, omega (arith, was, before), omega (arith, bound, all, byte))

  pub nowhere : (text : List ℕ) (place : ℕ) (left : List (List ℕ)) → IsAt text place left → left ≡ [] → list_any (begins key) (lines_of text) ≡ false
  nowhere text place left h e = sym h.any ∙ ap (list_any (begins key)) e

  -- ---- the two parts

  pub front_found : (text : List ℕ) (place : ℕ) → place ≡ bytes_before key (lines_of text) → take place text ≡ part_before key text
  unfolding part_before
  front_found text place e = ap (λ n. take n text) e

  pub rest_found : (text : List ℕ) (place : ℕ) → list_any (begins key) (lines_of text) ≡ true → place ≡ bytes_before key (lines_of text) →
      part_from key text ≡ Some (take (length text - place) (drop place text))
  unfolding part_from
  rest_found text place any e =
      ap (λ t. if t then Some (drop (bytes_before key (lines_of text)) text) else None) any ∙ ap (λ n. Some (drop n text)) (sym e)
      ∙ ap (λ l. Some l) (sym (take_rest text place))

  pub front_alone : (text : List ℕ) → list_any (begins key) (lines_of text) ≡ false → text ≡ part_before key text
  unfolding part_before
  front_alone text none =
      let all = all_before (lines_of text) none in
      let enough = at_least text in
      sym (take_all (bytes_before key (lines_of text)) text (omega (arith, all, enough)))

  pub none_behind : (text : List ℕ) → list_any (begins key) (lines_of text) ≡ false → part_from key text ≡ None
  unfolding part_from
  none_behind text none = ap (λ t. if t then Some (drop (bytes_before key (lines_of text)) text) else None) none
