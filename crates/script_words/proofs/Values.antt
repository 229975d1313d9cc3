-- Numbers and values that fit 64 bits, and those that don't.
use Rattle.std.proofs.Common.{◌≡◌, ◌≢◌, ℕ, zero, suc, ◌+◌, ◌-◌, ◌*◌, ◌^◌, ◌<◌, ◌≤◌, Bool, true, false, cond, not, ◌&&◌, ◌||◌, List, [], ◌∷◌, ◌++◌, All, None, refl, sym, ap, ◌∙◌, arith, inl, inr, ◌⊎◌}
use Rattle.std.specs.Prelude.{pos, negsuc, ◌==◌, nat_lt, nat_le, codes, bytes_eq}
use Rattle.std.specs.List.{list_all}
use Rattle.std.proofs.lemmas.Bool.{and_parts, and_right, eqb-true, ne_eqb, le-leb, lt-leb, lt-ltb, le-ltb, leb-true, leb-false}
use Rattle.std.proofs.Math.Dec.{eqb-suc-zero}
use Rattle.std.proofs.lemmas.Grind.{common_steps}
use Rattle.std.proofs.lemmas.List.Elements.{recursion_from_All}
use Rattle.dpc_lists.specs.Lists.{is_nil}
use Rattle.dpc_model.specs.Words.{Word}
use Rattle.script_rules.specs.Lines.{in_front, pieces}
use Rattle.script_rules.specs.Spelling.{is_digit, is_numeral, number, is_i64, is_name, are_name_and_numeral, is_node_name}
use Rattle.script_words.specs.Options.{◌>>=◌, given}
use Rattle.script_words.specs.Numbers.{u64_of, i64_of, below_zero, from_zero, i64_by_digits}
use Rattle.script_words.proofs.Digits.{value_grows}
use Rattle.script_words.proofs.Splitting.{pieces-append, pieces-one, pieces-cons}

-- ---- values

-- the only numeral of the number 0
zero_word : (w : Word) → is_numeral w ≡ true → bytes_eq w (codes "0") ≡ (number w == 0)
zero_word [] h = absurd cc
zero_word (b ∷ []) h = grind (arith, common_steps)
zero_word (b ∷ c ∷ bs) h =
    let p = and_parts (list_all is_digit (b ∷ c ∷ bs)) (not (b == 48) || false) h in
    let d = and_parts (is_digit b) (list_all is_digit (c ∷ bs)) p.0 in
    let low : 48 ≤ b = leb-true 48 b (and_parts (nat_le 48 b) (nat_le b 57) d.0).0 in
    let other : b ≢ 48 = first_is_other b p.1 in
    let grows : (0 + (b - 48)) * 10 + (c - 48) ≤ number (b ∷ c ∷ bs) = value_grows ((0 + (b - 48)) * 10 + (c - 48)) bs in
    and_right (b == 48) false refl ∙ sym (ne_eqb (number (b ∷ c ∷ bs)) 0 (λ e. omega arith))
  where
    first_is_other : (b : ℕ) → (not (b == 48) || false) ≡ true → b ≢ 48
    first_is_other b h e = absurd (grind (arith, common_steps))

-- a number that is none of i64
none_from : (t : Bool) (n : ℕ) → 2 ^ 63 ≤ n → (given t n >>= from_zero) ≡ None
none_from false n le = refl
none_from true n le = rw (le-ltb n (2 ^ 63) le) refl

none_below : (t : Bool) (n : ℕ) → 2 ^ 63 < n → (given t n >>= below_zero) ≡ None
none_below false n lt = refl
none_below true n lt = ap (λ t. given t (negsuc (n - 1))) (and_right (nat_lt 0 n) (nat_le n (2 ^ 63)) (lt-leb n (2 ^ 63) lt))

below_is : (n : ℕ) → given (is_i64 (negsuc (suc n - 1))) (negsuc (suc n - 1)) ≡ (given (nat_lt (suc n) (2 ^ 64)) (suc n) >>= below_zero)
below_is n =
    (elim (nat_le (suc n - 1) (2 ^ 63 - 1)) as (λ t. nat_le (suc n - 1) (2 ^ 63 - 1) ≡ t → given (t && true) (negsuc (suc n - 1)) ≡ (given (nat_lt (suc n) (2 ^ 64)) (suc n) >>= below_zero)) [
      | true ↦ λ e. let le : suc n - 1 ≤ 2 ^ 63 - 1 = leb-true _ _ e in rw (lt-ltb (suc n) (2 ^ 64) (omega arith), lt-ltb 0 (suc n) (omega arith), le-leb (suc n) (2 ^ 63) (omega arith)) refl
      | false ↦ λ e. let lt : 2 ^ 63 - 1 < suc n - 1 = leb-false _ _ e in sym (none_below (nat_lt (suc n) (2 ^ 64)) (suc n) (omega arith))
    ]) refl

-- a value below 0 by the number of its digits
minus_is : (n : ℕ) (numeral none : Bool) → (numeral ≡ true → none ≡ (n == 0)) → (given (numeral && nat_lt n (2 ^ 64)) n >>= below_zero) ≡ given ((numeral && not none) && is_i64 (negsuc (n - 1))) (negsuc (n - 1))
minus_is n false none h = refl
minus_is zero true none h = rw (h refl) refl
minus_is (suc n) true none h = let some : none ≡ false = h refl ∙ eqb-suc-zero n in rw some (sym (below_is n))

-- a value from 0 on
plain_is : (n : ℕ) (numeral : Bool) → (given (numeral && nat_lt n (2 ^ 64)) n >>= from_zero) ≡ given (numeral && is_i64 (pos n)) (pos n)
plain_is n false = refl
plain_is n true =
    (elim (nat_le n (2 ^ 63 - 1)) as (λ t. nat_le n (2 ^ 63 - 1) ≡ t → (given (nat_lt n (2 ^ 64)) n >>= from_zero) ≡ given t (pos n)) [
      | true ↦ λ e. let le : n ≤ 2 ^ 63 - 1 = leb-true _ _ e in rw (lt-ltb n (2 ^ 64) (omega arith), lt-ltb n (2 ^ 63) (omega arith)) refl
      | false ↦ λ e. let lt : 2 ^ 63 - 1 < n = leb-false _ _ e in none_from (nat_lt n (2 ^ 64)) n (omega arith)
    ]) refl

-- a value of i64 by the number of its digits
pub by_digits : (w : Word) → i64_by_digits w ≡ i64_of w
by_digits [] = refl
by_digits (b ∷ bs) =
    elim (b == 45) as (λ t. cond t (u64_of bs >>= below_zero) (u64_of (b ∷ bs) >>= from_zero) ≡
    given (cond t (is_numeral bs && not (bytes_eq bs (codes "0"))) (is_numeral (b ∷ bs)) && is_i64 (cond t (negsuc (number bs - 1)) (pos (number (b ∷ bs))))) (cond t (negsuc (number bs - 1)) (pos (number (b ∷ bs))))) [
      | true ↦ minus_is (number bs) (is_numeral bs) (bytes_eq bs (codes "0")) (zero_word bs)
      | false ↦ plain_is (number (b ∷ bs)) (is_numeral (b ∷ bs))
    ]

-- ---- names of nodes

-- bytes with a dot are at least two pieces, and no numeral
record IsDotted (bs : List ℕ) : Type 0 where
  first : Word
  next : Word
  more : List Word
  at : pieces 46 bs ≡ first ∷ next ∷ more
  digits : list_all is_digit bs ≡ false

is_dotted : (bs : List ℕ) → (pieces 46 bs ≡ bs ∷ []) ⊎ IsDotted bs
is_dotted [] = inl refl
is_dotted (b ∷ bs) =
    (elim (b == 46) as (λ t. (b == 46) ≡ t → (cond t ([] ∷ pieces 46 bs) (in_front b (pieces 46 bs)) ≡ (b ∷ bs) ∷ []) ⊎ IsDotted (b ∷ bs)) [
      | true ↦ λ e.
          let c = pieces-cons 46 bs in
          inr (record { first = []; next = c.0; more = c.1; at = rw (e, c.2) refl; digits = let dot : b ≡ 46 = eqb-true b 46 e in rw dot refl })
      | false ↦ λ e. elim (is_dotted bs) [
        | inl h ↦ inl (ap (in_front b) h)
        | inr h ↦ inr (record { first = b ∷ h.first; next = h.next; more = h.more; at = rw (e, h.at) refl; digits = and_right (is_digit b) (list_all is_digit bs) h.digits })
      ]
    ]) refl

no_numeral : (bs : List ℕ) → list_all is_digit bs ≡ false → is_numeral bs ≡ false
no_numeral [] h = refl
no_numeral (b ∷ bs) h = ap (λ t. t && (not (b == 48) || is_nil bs)) h

behind_dot : (name rest : Word) → (is_name name && is_numeral rest) ≡ are_name_and_numeral (name ∷ pieces 46 rest)
behind_dot name rest = elim (is_dotted rest) [
  | inl h ↦ rw h refl
  | inr h ↦ rw (h.at, no_numeral rest h.digits) (and_right (is_name name) false refl)
]

pub node_name_cut : (word front rest : List ℕ) → All (λ b. b ≢ 46) front → word ≡ front ++ 46 ∷ rest → (is_name front && is_numeral rest) ≡ is_node_name word
node_name_cut word front rest h is =
    behind_dot front rest
    ∙ ap (λ ps. are_name_and_numeral (ps ++ pieces 46 rest)) (sym (pieces-one 46 front (recursion_from_All (λ b. b ≢ 46) front h)))
    ∙ ap are_name_and_numeral (sym (pieces-append 46 front rest) ∙ ap (pieces 46) (sym is))

pub node_name_whole : (word front : List ℕ) → All (λ b. b ≢ 46) front → word ≡ front → false ≡ is_node_name word
node_name_whole word front h is = rw is (rw (pieces-one 46 front (recursion_from_All (λ b. b ≢ 46) front h)) refl)
