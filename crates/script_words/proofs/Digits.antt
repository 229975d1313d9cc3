-- Numbers, read byte by byte.
use Rattle.std.proofs.Common.{◌≡◌, ℕ, ◌+◌, ◌-◌, ◌*◌, ◌^◌, ◌<◌, ◌≤◌, true, false, not, ◌&&◌, ◌||◌, eqb, ltb, List, [], ◌∷◌, length, get_or, drop, Some, None, sym, ap, refl, ◌∙◌, arith, inl, inr, ◌⊎◌}
use Rattle.std.specs.List.{list_all}
use Rattle.std.proofs.lemmas.Bool.{and_right, or_right, ne_eqb, le-ltb, lt-ltb}
use Rattle.std.proofs.lemmas.List.{at_drop_more, at_drop_all}
use Rattle.dpc_lists.specs.Lists.{is_nil}
use Rattle.script_rules.specs.Spelling.{is_digit, value_after, is_numeral, number}
use Rattle.script_words.specs.Options.{given}
use Rattle.script_words.specs.Numbers.{u64_of}

-- more digits make no smaller number
pub value_grows : (n : ℕ) (digits : List ℕ) → n ≤ value_after n digits
value_grows n [] = omega arith
value_grows n (b ∷ digits) = omega (arith, value_grows (n * 10 + (b - 48)) digits)

-- a word that is too large
too_large : (word : List ℕ) → 2 ^ 64 ≤ number word → None ≡ u64_of word
too_large word le = sym (ap (λ t. given t (number word)) (and_right (is_numeral word) _ (le-ltb (number word) (2 ^ 64) le)))

no_numeral : (word : List ℕ) → list_all is_digit word ≡ false → is_numeral word ≡ false
no_numeral [] e = absurd cc
no_numeral (b ∷ bs) e = ap (λ t. t && (not (eqb b 48) || is_nil bs)) e

-- a word with another byte is no number
no_digits : (word : List ℕ) → list_all is_digit word ≡ false → None ≡ u64_of word
no_digits word e = sym (ap (λ t. given (t && ltb (number word) (2 ^ 64)) (number word)) (no_numeral word e))

-- what the digits so far, and those to come, are
pub record IsRead (word : List ℕ) (i value : ℕ) : Type 0 where
  pub told : value_after value (drop i word) ≡ number word
  pub digits : list_all is_digit (drop i word) ≡ list_all is_digit word
  pub fits : value < 2 ^ 64

-- a byte that is no digit
pub stops : (word : List ℕ) (i value : ℕ) → i < length word → IsRead word i value → is_digit (get_or word i 0) ≡ false → None ≡ u64_of word
stops word i value lt read other =
    let at : list_all is_digit (drop i word) ≡ (is_digit (get_or word i 0) && list_all is_digit (drop (i + 1) word)) = at_drop_more (list_all is_digit) word i 0 lt in
    no_digits word (sym read.digits ∙ at ∙ ap (λ t. t && list_all is_digit (drop (i + 1) word)) other)

-- one more digit makes at least this
grown : (word : List ℕ) (i value : ℕ) → i < length word → IsRead word i value → value * 10 + (get_or word i 0 - 48) ≤ number word
grown word i value lt read =
    let at : value_after value (drop i word) ≡ value_after (value * 10 + (get_or word i 0 - 48)) (drop (i + 1) word) = at_drop_more (value_after value) word i 0 lt in
    omega (arith, value_grows (value * 10 + (get_or word i 0 - 48)) (drop (i + 1) word), read.told, at)

-- a digit that makes the number too large
pub overflows : (word : List ℕ) (i value : ℕ) → i < length word → IsRead word i value → 2 ^ 64 ≤ value * 10 + (get_or word i 0 - 48) → None ≡ u64_of word
overflows word i value lt read le = too_large word (omega (arith, grown word i value lt read))

-- one more digit
pub goes_on : (word : List ℕ) (i value more : ℕ) → i < length word → IsRead word i value → is_digit (get_or word i 0) ≡ true → more ≡ value * 10 + (get_or word i 0 - 48) → more < 2 ^ 64 → IsRead word (i + 1) more
goes_on word i value more lt read digit is fits =
    let value_at : value_after value (drop i word) ≡ value_after (value * 10 + (get_or word i 0 - 48)) (drop (i + 1) word) = at_drop_more (value_after value) word i 0 lt in
    let digits_at : list_all is_digit (drop i word) ≡ (is_digit (get_or word i 0) && list_all is_digit (drop (i + 1) word)) = at_drop_more (list_all is_digit) word i 0 lt in
    record {
      told = ap (λ n. value_after n (drop (i + 1) word)) is ∙ sym value_at ∙ read.told;
      digits = ap (λ t. t && list_all is_digit (drop (i + 1) word)) (sym digit) ∙ sym digits_at ∙ read.digits;
      fits = fits;
    }

is_numeral_at : (word : List ℕ) → list_all is_digit word ≡ true → eqb (length word) 0 ≡ false → (get_or word 0 0 ≡ 48 × length word ≤ 1) ⊎ (get_or word 0 0 ≡ 48 → ⊥) → is_numeral word ≡ true
is_numeral_at [] digits some zeros = absurd cc
is_numeral_at (b ∷ []) digits some zeros = rw digits (or_right (not (eqb b 48)) true refl)
is_numeral_at (b ∷ c ∷ bs) digits some (inl zero) = absurd (omega (arith, zero.1))
is_numeral_at (b ∷ c ∷ bs) digits some (inr other) = rw (digits, ne_eqb b 48 other) refl

-- the end of the word
pub is_done : (word : List ℕ) (i value : ℕ) → length word ≤ i → eqb (length word) 0 ≡ false → (get_or word 0 0 ≡ 48 × length word ≤ 1) ⊎ (get_or word 0 0 ≡ 48 → ⊥) → IsRead word i value → Some value ≡ u64_of word
is_done word i value le some zeros read =
    let is : value ≡ number word = sym (at_drop_all (value_after value) word i le) ∙ read.told in
    let digits : list_all is_digit word ≡ true = sym read.digits ∙ at_drop_all (list_all is_digit) word i le in
    let below : ltb (number word) (2 ^ 64) ≡ true = lt-ltb (number word) (2 ^ 64) (omega (arith, read.fits, is)) in
    ap Some is ∙ sym (rw (is_numeral_at word digits some zeros, below) refl)
