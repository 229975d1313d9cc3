-- The first line of bytes, by the place of the first LF.
use Rattle.std.proofs.Common.{◌≡◌, ℕ, zero, suc, ◌+◌, ◌-◌, ◌<◌, true, false, cond, List, [], ◌∷◌, length, take, drop, get_or, Some, None, refl, sym, ap, ◌∙◌, arith}
use Rattle.std.specs.Prelude.{◌==◌}
use Rattle.std.proofs.lemmas.Bool.{eqb-true, eq-eqb}
use Rattle.std.proofs.lemmas.List.{take_rest}
use Rattle.memchr.specs.Find.{IsFirstByte, is_byte}
use Rattle.input_parts.specs.Openings.{first_line, behind_line}

-- no byte is a LF below a place
abbrev NoneBelow : ℕ → List ℕ → Type 0
NoneBelow k text = (i : ℕ) → i < k → i < length text → get_or text i 0 ≡ 10 → ⊥

record Cut (text : List ℕ) (k : ℕ) : Type 0 where
  line : first_line text ≡ take k text
  behind : behind_line text ≡ drop (suc k) text

none_next : (b k : ℕ) (text : List ℕ) → NoneBelow (suc k) (b ∷ text) → NoneBelow k text
none_next b k text none i low within e = none (suc i) (omega (arith, low)) (omega (arith, within)) e

no_first : (b k : ℕ) (text : List ℕ) → NoneBelow (suc k) (b ∷ text) → (b == 10) ≡ false
no_first b k text none =
    (elim (b == 10) as (λ t. (b == 10) ≡ t → t ≡ false) [
      | true ↦ λ e. absurd (none 0 (omega arith) (omega arith) (eqb-true b 10 e))
      | false ↦ λ e. refl
    ]) refl

cut_at : (text : List ℕ) (k : ℕ) → k < length text → get_or text k 0 ≡ 10 → NoneBelow k text → Cut text k
cut_at [] k within is none = absurd (omega (arith, within))
cut_at (b ∷ text) zero within is none =
    let first : (b == 10) ≡ true = eq-eqb b 10 is in
    record { line = ap (λ t. cond t [] (b ∷ first_line text)) first; behind = ap (λ t. cond t text (behind_line text)) first }
cut_at (b ∷ text) (suc k) within is none =
    let other = no_first b k text none in
    let rest = cut_at text k (omega (arith, within)) is (none_next b k text none) in
    record {
      line = ap (λ t. cond t [] (b ∷ first_line text)) other ∙ ap (λ l. b ∷ l) rest.line;
      behind = ap (λ t. cond t text (behind_line text)) other ∙ rest.behind;
    }

pub line_found : (text : List ℕ) (k : ℕ) → IsFirstByte (is_byte 10) text (Some k) → first_line text ≡ take k text
line_found text k h =
    (cut_at text k h.0.high (eqb-true (get_or text k 0) 10 h.1) (λ i low within e. h.0.before i (omega arith) low (eq-eqb (get_or text i 0) 10 e))).line

pub rest_found : (text : List ℕ) (k : ℕ) → IsFirstByte (is_byte 10) text (Some k) → behind_line text ≡ take (length text - (k + 1)) (drop (k + 1) text)
rest_found text k h =
    let next : suc k ≡ k + 1 = omega arith in
    (cut_at text k h.0.high (eqb-true (get_or text k 0) 10 h.1) (λ i low within e. h.0.before i (omega arith) low (eq-eqb (get_or text i 0) 10 e))).behind
    ∙ ap (λ n. drop n text) next ∙ sym (take_rest text (k + 1))

record Whole (text : List ℕ) : Type 0 where
  line : first_line text ≡ text
  behind : behind_line text ≡ []

no_cut : (text : List ℕ) → NoneBelow (length text) text → Whole text
no_cut [] none = record { line = refl; behind = refl }
no_cut (b ∷ text) none =
    let other = no_first b (length text) text none in
    let rest = no_cut text (none_next b (length text) text none) in
    record {
      line = ap (λ t. cond t [] (b ∷ first_line text)) other ∙ ap (λ l. b ∷ l) rest.line;
      behind = ap (λ t. cond t text (behind_line text)) other ∙ rest.behind;
    }

pub line_alone : (text : List ℕ) → IsFirstByte (is_byte 10) text None → first_line text ≡ text
line_alone text h = (no_cut text (λ i low within e. h i (omega arith) within (eq-eqb (get_or text i 0) 10 e))).line

pub none_behind_line : (text : List ℕ) → IsFirstByte (is_byte 10) text None → behind_line text ≡ []
none_behind_line text h = (no_cut text (λ i low within e. h i (omega arith) within (eq-eqb (get_or text i 0) 10 e))).behind
