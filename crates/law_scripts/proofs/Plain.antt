-- Names, numbers and values are plain words.
use Rattle.std.proofs.Common.{◌≡◌, ℕ, ◌^◌, ◌<◌, ◌≤◌, Bool, true, false, List, [], ◌∷◌, ◌++◌, refl, sym, subst, arith}
use Rattle.std.specs.Prelude.{ℤ, not, ◌&&◌, ◌||◌, ◌==◌, nat_lt, nat_le, if◌then◌else◌, length, codes, bytes_eq}
use Rattle.std.specs.Fmt.{decimal, signed_decimal}
use Rattle.std.proofs.lemmas.Bool.{and_parts, eqb-true, leb-true, le-leb}
use Rattle.dpc_lists.specs.Lists.{list_all, is_nil}
use Rattle.dpc_model.specs.Words.{Word}
use Rattle.dpc_model.specs.ScriptText.{column_word}
use Rattle.script_rules.specs.Spelling.{is_digit, is_numeral, is_value, is_i64, is_letter, may_stand_in_name, is_name}
use Rattle.script_rules.proofs.Numerals.{is_numeral-decimal, signed_is_value}
use Rattle.law_scripts.proofs.Lines.{is_plain_byte, is_plain}

pub weaker : (p q : ℕ → Bool) → ((b : ℕ) → p b ≡ true → q b ≡ true) → (w : List ℕ) → list_all p w ≡ true → list_all q w ≡ true
weaker p q h [] k = refl
weaker p q h (b ∷ w) k =
    let s = and_parts (p b) (list_all p w) k in
    rw (h b s.0, weaker p q h w s.1) refl

digit_is_plain : (b : ℕ) → is_digit b ≡ true → is_plain_byte b ≡ true
digit_is_plain b h =
    let p = and_parts (nat_le 48 b) (nat_le b 57) h in
    let low : 48 ≤ b = leb-true 48 b p.0 in
    let high : b ≤ 57 = leb-true b 57 p.1 in
    rw (le-leb 33 b (omega (arith, low)), le-leb b 126 (omega (arith, high))) refl

letter_is_plain : (b : ℕ) → is_letter b ≡ true → is_plain_byte b ≡ true
letter_is_plain b h =
    let p = and_parts (nat_le 97 b) (nat_le b 122) h in
    let low : 97 ≤ b = leb-true 97 b p.0 in
    let high : b ≤ 122 = leb-true b 122 p.1 in
    rw (le-leb 33 b (omega (arith, low)), le-leb b 126 (omega (arith, high))) refl

byte_of_name : (b : ℕ) → may_stand_in_name b ≡ true → is_plain_byte b ≡ true
byte_of_name b h =
    (elim (is_letter b) as (λ t. is_letter b ≡ t → (t || is_digit b || b == 95) ≡ true → is_plain_byte b ≡ true) [
      | true ↦ λ e k. letter_is_plain b e
      | false ↦ λ e k. digit_or_low (is_digit b) refl k
    ]) refl h
  where
    underscore : (b : ℕ) → (b == 95) ≡ true → is_plain_byte b ≡ true
    underscore b e = let same : 95 ≡ b = sym (eqb-true b 95 e) in subst (λ n. is_plain_byte n ≡ true) same refl

    digit_or_low : (t : Bool) → is_digit b ≡ t → (t || b == 95) ≡ true → is_plain_byte b ≡ true
    digit_or_low true e k = digit_is_plain b e
    digit_or_low false e k = underscore b k

pub plain_name : (w : Word) → is_name w ≡ true → is_plain w ≡ true
plain_name [] h = absurd cc
plain_name (b ∷ bs) h =
    let p = and_parts (is_letter b && list_all may_stand_in_name bs) (nat_lt (length bs) 16) h in
    let q = and_parts (is_letter b) (list_all may_stand_in_name bs) p.0 in
    rw (letter_is_plain b q.0, weaker may_stand_in_name is_plain_byte byte_of_name bs q.1) refl

pub plain_numeral : (w : Word) → is_numeral w ≡ true → is_plain w ≡ true
plain_numeral [] h = absurd cc
plain_numeral (b ∷ bs) h = weaker is_digit is_plain_byte digit_is_plain (b ∷ bs) (and_parts (list_all is_digit (b ∷ bs)) (not (b == 48) || is_nil bs) h).0

pub plain_decimal : (n : ℕ) → n < 2 ^ 64 → is_plain (decimal n) ≡ true
plain_decimal n h = plain_numeral (decimal n) (is_numeral-decimal n h)

-- behind a byte of its own
plain_behind : (b : ℕ) (w : Word) → is_plain_byte b ≡ true → is_plain w ≡ true → is_plain (b ∷ w) ≡ true
plain_behind b w h k = rw (h, (and_parts (not (is_nil w)) (list_all is_plain_byte w) k).1) refl

plain_value : (w : Word) → is_value w ≡ true → is_plain w ≡ true
plain_value [] h = absurd cc
plain_value (b ∷ bs) h =
    (elim (b == 45) as (λ t. (b == 45) ≡ t → (if t then is_numeral bs && not (bytes_eq bs (codes "0")) else is_numeral (b ∷ bs)) ≡ true → is_plain (b ∷ bs) ≡ true) [
      | true ↦ λ e k.
          let minus : is_plain_byte b ≡ true = subst (λ n. is_plain_byte n ≡ true) (sym (eqb-true b 45 e)) refl in
          plain_behind b bs minus (plain_numeral bs (and_parts (is_numeral bs) (not (bytes_eq bs (codes "0"))) k).0)
      | false ↦ λ e k. plain_numeral (b ∷ bs) k
    ]) refl h

pub plain_signed : (z : ℤ) → is_i64 z ≡ true → is_plain (signed_decimal z) ≡ true
plain_signed z h = plain_value (signed_decimal z) (signed_is_value z h).0

pub plain_column : (c : ℕ) → c < 2 ^ 64 → is_plain (column_word c) ≡ true
plain_column c h = plain_behind 99 (decimal c) refl (plain_decimal c h)

pub plain_node : (f r : Word) → is_name f ≡ true → is_numeral r ≡ true → is_plain (f ++ 46 ∷ r) ≡ true
plain_node f r h k = with_rest f (plain_name f h)
  where
    bytes : (f : Word) → list_all is_plain_byte f ≡ true → list_all is_plain_byte (f ++ 46 ∷ r) ≡ true
    bytes [] e = (and_parts (not (is_nil (46 ∷ r))) (list_all is_plain_byte (46 ∷ r)) (plain_behind 46 r refl (plain_numeral r k))).1
    bytes (b ∷ f) e =
        let p = and_parts (is_plain_byte b) (list_all is_plain_byte f) e in
        rw (p.0, bytes f p.1) refl

    with_rest : (f : Word) → is_plain f ≡ true → is_plain (f ++ 46 ∷ r) ≡ true
    with_rest [] e = absurd cc
    with_rest (b ∷ f) e = bytes (b ∷ f) e
