-- Tests of expressions, by their longest one and by the columns that they read.
use Rattle.std.proofs.Common.{◌≡◌, ℕ, ◌+◌, ◌<◌, ◌≤◌, true, false, ◌&&◌, ◌||◌, max, List, [], ◌∷◌, length, refl, sym, ap, ◌∙◌, arith}
use Rattle.std.specs.Prelude.{nat_lt, nat_le}
use Rattle.std.proofs.lemmas.Bool.{lt-ltb, le-ltb, le-leb, lt-leb, ltb-true, ltb-false, leb-true, leb-false}
use Rattle.dpc_lists.specs.Lists.{nth, list_any, list_all}
use Rattle.dpc_model.specs.Formula as formula
use Rattle.dpc_model.specs.Formula.{Formula}
use Rattle.dpc_model.specs.Values.{reads_below}
use Rattle.dpc_lists.proofs.Truths.{or-none, and-true}
use Rattle.script_rules.specs.Reasons.{is_too_long}
use Rattle.script_words.specs.Readable.{longest, columns_of, columns_in}

lt_max : (k a b : ℕ) → (nat_lt k a || nat_lt k b) ≡ nat_lt k (max a b)
lt_max k a b =
    (elim (nat_lt k a) as (λ t. nat_lt k a ≡ t → (t || nat_lt k b) ≡ nat_lt k (max a b)) [
      | true ↦ λ e. let lt : k < a = ltb-true k a e in rw (lt-ltb k (max a b) (omega arith)) refl
      | false ↦ λ e.
          let le : a ≤ k = ltb-false k a e in
          (elim (nat_lt k b) as (λ t. nat_lt k b ≡ t → t ≡ nat_lt k (max a b)) [
            | true ↦ λ f. let lt : k < b = ltb-true k b f in rw (lt-ltb k (max a b) (omega arith)) refl
            | false ↦ λ f. let less : b ≤ k = ltb-false k b f in rw (le-ltb k (max a b) (omega arith)) refl
          ]) refl
    ]) refl

pub max_le : (a b n : ℕ) → (nat_le a n && nat_le b n) ≡ nat_le (max a b) n
max_le a b n =
    (elim (nat_le a n) as (λ t. nat_le a n ≡ t → (t && nat_le b n) ≡ nat_le (max a b) n) [
      | true ↦ λ e.
          let le : a ≤ n = leb-true a n e in
          (elim (nat_le b n) as (λ t. nat_le b n ≡ t → t ≡ nat_le (max a b) n) [
            | true ↦ λ f. let less : b ≤ n = leb-true b n f in rw (le-leb (max a b) n (omega arith)) refl
            | false ↦ λ f. let lt : n < b = leb-false b n f in rw (lt-leb (max a b) n (omega arith)) refl
          ]) refl
      | false ↦ λ e. let lt : n < a = leb-false a n e in rw (lt-leb (max a b) n (omega arith)) refl
    ]) refl

-- an expression is too long where the longest one is
pub too_long_is : (es : List Formula) → list_any is_too_long es ≡ nat_lt 64 (longest es)
too_long_is [] = refl
too_long_is (e ∷ es) = ap (λ t. is_too_long e || t) (too_long_is es) ∙ lt_max 64 (formula.words e) (longest es)

reads_is : (n : ℕ) (e : Formula) → reads_below n e ≡ nat_le (columns_of e) n
reads_is n (formula.Col c) =
    (elim (nat_lt c n) as (λ t. nat_lt c n ≡ t → t ≡ nat_le (c + 1) n) [
      | true ↦ λ e. let lt : c < n = ltb-true c n e in sym (le-leb (c + 1) n (omega arith))
      | false ↦ λ e. let le : n ≤ c = ltb-false c n e in sym (lt-leb (c + 1) n (omega arith))
    ]) refl
reads_is n (formula.Num z) = sym (le-leb 0 n (omega arith))
reads_is n formula.Time = sym (le-leb 0 n (omega arith))
reads_is n (formula.Neg e) = reads_is n e
reads_is n (formula.Not e) = reads_is n e
reads_is n (formula.Bin op d e) = rw (reads_is n d, reads_is n e) (max_le (columns_of d) (columns_of e) n)
reads_is n (formula.If c d e) = rw (reads_is n c, reads_is n d, reads_is n e) (ap (λ t. nat_le (columns_of c) n && t) (max_le (columns_of d) (columns_of e) n) ∙ max_le (columns_of c) (max (columns_of d) (columns_of e)) n)

-- expressions read below n where the last column that they read is below
pub reads_below_is : (n : ℕ) (es : List Formula) → list_all (reads_below n) es ≡ nat_le (columns_in es) n
reads_below_is n [] = sym (le-leb 0 n (omega arith))
reads_below_is n (e ∷ es) = rw (reads_is n e, reads_below_is n es) (max_le (columns_of e) (columns_in es) n)

-- the same of a single expression
pub one_too_long : (es : List Formula) → length es ≡ 1 → is_too_long (nth formula.Time es 0) ≡ nat_lt 64 (longest es)
one_too_long [] h = absurd (omega arith)
one_too_long (e ∷ []) h = sym (or-none (is_too_long e)) ∙ too_long_is (e ∷ [])
one_too_long (e ∷ f ∷ es) h = absurd (omega arith)

pub one_reads_below : (n : ℕ) (es : List Formula) → length es ≡ 1 → reads_below n (nth formula.Time es 0) ≡ nat_le (columns_in es) n
one_reads_below n [] h = absurd (omega arith)
one_reads_below n (e ∷ []) h = sym (and-true (reads_below n e)) ∙ reads_below_is n (e ∷ [])
one_reads_below n (e ∷ f ∷ es) h = absurd (omega arith)
