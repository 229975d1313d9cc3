-- Numbers and values as words: what is written of a number is read as that number, and what is read is what is written.
use Rattle.std.proofs.Common.{◌≡◌, ℕ, zero, suc, ◌+◌, ◌-◌, ◌^◌, ◌<◌, ◌≤◌, true, false, List, [], ◌∷◌, length, get_or, refl, sym, ap, ◌∙◌, arith, rules}
use Rattle.std.specs.Prelude.{ℤ, pos, negsuc, not, ◌&&◌, ◌||◌, ◌==◌, nat_le, int_le, Some, codes, bytes_eq}
use Rattle.std.specs.Fmt.{decimal, signed_decimal}
use Rattle.std.proofs.lemmas.Bool.{and_parts, eqb-true, leb-true, le-leb, ne_eqb}
use Rattle.std.proofs.lemmas.Fmt.{decimal_digit, decimal_nonempty, first_decimal, digits_decimal, digits_value-decimal, decimal-digits_value}
use Rattle.std.proofs.lemmas.Grind.{common_steps}
use Rattle.std.proofs.lemmas.Slice.Eq.{bytes_eq-Decides}
use Rattle.std.proofs.lemmas.Str.Parse.{IsNumeralModel, numerals_by_fold}
use Rattle.dpc_lists.specs.Lists.{list_all, is_nil}
use Rattle.dpc_model.specs.Words.{Word}
use Rattle.dpc_model.specs.ScriptText.{column_word}
use Rattle.dpc_model.specs.Formula as formula
use Rattle.script_rules.specs.Spelling.{is_digit, is_numeral, value_after, number, is_value, value, is_i64, looks_like_value, column_of}
use Rattle.script_rules.specs.Symbols.{Whole, symbol_of}

-- `value_after` is std's value of digits
std_numerals : IsNumeralModel (λ ds. list_all is_digit ds ≡ true) (value_after 0)
std_numerals = numerals_by_fold _ (search rules) value_after (search rules)

-- ---- numbers

-- what is left of the test for a leading zero
no_leading_zero : (b : ℕ) (bs : List ℕ) → (not (b == 48) || is_nil bs) ≡ true → b ≡ 48 → length (b ∷ bs) ≡ 1
no_leading_zero b [] h e = refl
no_leading_zero b (c ∷ bs) h e = absurd (grind (arith, common_steps))

-- a numeral is what is written of its number
pub numeral_is : (w : Word) → is_numeral w ≡ true → number w < 2 ^ 64 → w ≡ decimal (number w)
numeral_is [] h low = absurd cc
numeral_is (b ∷ bs) h low =
    let p = and_parts (list_all is_digit (b ∷ bs)) (not (b == 48) || is_nil bs) h in
    sym (decimal-digits_value std_numerals (b ∷ bs) p.0 (omega arith) (no_leading_zero b bs p.1) low)

-- a word of digits that has no leading zero is a numeral
are_numeral : (w : Word) → list_all is_digit w ≡ true → 0 < length w → (get_or w 0 0 ≡ 48 → length w ≡ 1) → is_numeral w ≡ true
are_numeral [] d l z = absurd (omega arith)
are_numeral (b ∷ []) d l z = grind (arith, common_steps)
are_numeral (b ∷ c ∷ bs) d l z =
    (elim (b == 48) as (λ t. (b == 48) ≡ t → (list_all is_digit (b ∷ c ∷ bs) && (not t || false)) ≡ true) [
      | true ↦ λ e. let short : length (b ∷ c ∷ bs) ≡ 1 = z (eqb-true b 48 e) in absurd (omega arith)
      | false ↦ λ e. rw d refl
    ]) refl

-- only the number 0 begins with the digit 0
zero_alone : (n : ℕ) → n < 2 ^ 64 → get_or (decimal n) 0 0 ≡ 48 → length (decimal n) ≡ 1
zero_alone zero h e = rw (decimal_digit 0 (omega arith)) refl
zero_alone (suc n) h e = let f : 48 < get_or (decimal (suc n)) 0 0 = first_decimal (suc n) (omega arith) h in absurd (omega arith)

-- what is written of a number is a numeral
pub is_numeral-decimal : (n : ℕ) → n < 2 ^ 64 → is_numeral (decimal n) ≡ true
is_numeral-decimal n h = are_numeral (decimal n) (digits_decimal std_numerals n h) (decimal_nonempty n h) (zero_alone n h)

-- .. of that number
pub number-decimal : (n : ℕ) → n < 2 ^ 64 → number (decimal n) ≡ n
number-decimal n h = digits_value-decimal std_numerals n h

-- ---- values

pub i64_from_zero : (n : ℕ) → is_i64 (pos n) ≡ true → n < 2 ^ 63
i64_from_zero n h = let p = and_parts (int_le (negsuc (2 ^ 63 - 1)) (pos n)) (int_le (pos n) (pos (2 ^ 63 - 1))) h in let low : n ≤ 2 ^ 63 - 1 = leb-true _ _ p.1 in omega arith

pub i64_below_zero : (n : ℕ) → is_i64 (negsuc n) ≡ true → n < 2 ^ 63
i64_below_zero n h = let p = and_parts (int_le (negsuc (2 ^ 63 - 1)) (negsuc n)) (int_le (negsuc n) (pos (2 ^ 63 - 1))) h in let low : n ≤ 2 ^ 63 - 1 = leb-true _ _ p.0 in omega arith

-- the first byte of digits is a digit
first_digit : (b : ℕ) (bs : List ℕ) → list_all is_digit (b ∷ bs) ≡ true → is_digit b ≡ true
first_digit b bs e = (and_parts (is_digit b) (list_all is_digit bs) e).0

digit_is_no_minus : (b : ℕ) → is_digit b ≡ true → (b == 45) ≡ false
digit_is_no_minus b h =
    let p = and_parts (nat_le 48 b) (nat_le b 57) h in
    let low : 48 ≤ b = leb-true 48 b p.0 in
    ne_eqb b 45 (λ e. omega arith)

-- a numeral is a value, and looks like one
pub numeral_is_value : (w : Word) → is_numeral w ≡ true → (is_value w ≡ true) × (value w ≡ pos (number w)) × (looks_like_value w ≡ true)
numeral_is_value [] h = absurd cc
numeral_is_value (b ∷ bs) h =
    let p = and_parts (list_all is_digit (b ∷ bs)) (not (b == 48) || is_nil bs) h in
    let d : is_digit b ≡ true = first_digit b bs p.0 in
    let other : (b == 45) ≡ false = digit_is_no_minus b d in
    (rw other h, rw other refl, rw d refl)

-- a number that is not 0 is not written as 0
not_zero : (n : ℕ) → n < 2 ^ 64 → 0 < n → bytes_eq (decimal n) (codes "0") ≡ false
not_zero n h l =
    (elim (bytes_eq (decimal n) (codes "0")) as (λ t. bytes_eq (decimal n) (codes "0") ≡ t → t ≡ false) [
      | true ↦ λ e.
          let same : decimal n ≡ codes "0" = (bytes_eq-Decides (decimal n) (codes "0")).0 e in
          let none : number (decimal n) ≡ 0 = ap number same in
          let is : number (decimal n) ≡ n = number-decimal n h in
          absurd (omega arith)
      | false ↦ λ e. refl
    ]) refl

-- what is written of a value is read as that value
pub signed_is_value : (z : ℤ) → is_i64 z ≡ true → (is_value (signed_decimal z) ≡ true) × (value (signed_decimal z) ≡ z) × (looks_like_value (signed_decimal z) ≡ true)
signed_is_value (pos n) h =
    let low : n < 2 ^ 63 = i64_from_zero n h in
    let wide : n < 2 ^ 64 = omega arith in
    let v = numeral_is_value (decimal n) (is_numeral-decimal n wide) in
    (v.0, v.1 ∙ ap pos (number-decimal n wide), v.2)
signed_is_value (negsuc n) h =
    let low : n < 2 ^ 63 = i64_below_zero n h in
    let wide : suc n < 2 ^ 64 = omega arith in
    let one_less : suc n - 1 ≡ n = omega arith in
    (rw (is_numeral-decimal (suc n) wide, not_zero (suc n) wide (omega arith)) refl, ap (λ k. negsuc (k - 1)) (number-decimal (suc n) wide) ∙ ap negsuc one_less, refl)

-- a value's word in an expression
pub symbol_of-signed : (z : ℤ) → is_i64 z ≡ true → symbol_of (signed_decimal z) ≡ Whole (formula.Num z)
symbol_of-signed z h = let v = signed_is_value z h in rw (v.2, v.1) refl

-- a column's word
digit_of_column : (c : ℕ) → c < 8 → column_of (99 ∷ (48 + c) ∷ []) ≡ Some c
digit_of_column c h = let same : (48 + c) - 48 ≡ c = omega arith in rw (le-leb 48 (48 + c) (omega arith), le-leb (48 + c) 55 (omega arith), same) refl

pub column_of-word : (c : ℕ) → c < 8 → column_of (column_word c) ≡ Some c
column_of-word c h = rw (decimal_digit c (omega arith)) (digit_of_column c h)

pub symbol_of-column : (c : ℕ) → c < 8 → symbol_of (column_word c) ≡ Whole (formula.Col c)
symbol_of-column c h = rw (column_of-word c h) refl
