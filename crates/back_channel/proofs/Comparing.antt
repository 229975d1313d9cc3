-- Lists of tuples that are compared.
use Rattle.std.proofs.Common.{◌≡◌, ◌≢◌, ℕ, ◌≤◌, ◌<◌, ◌==◌, Bool, true, false, List, [], ◌∷◌, ◌++◌, length, take, drop, get_or, refl, sym, ap, ◌∙◌, arith}
use Rattle.std.proofs.lemmas.Bool.{eqb-true}
use Rattle.std.proofs.lemmas.Bool.Decides.{Decides-eqb}
use Rattle.std.proofs.lemmas.List.{length-append, get_or_append_left, get_or-take, get_or_default, take_all}
use Rattle.std.specs.Cmp.Derive.{both_true}
use Rattle.dpc_model.specs.declared.tuples.Tuple.{Tuple}
use Rattle.back_channel.specs.Merging.{begins_with}
use Rattle.back_channel.specs.Standing.{IsFront, Agrees}
use Rattle.back_channel.proofs.Beginnings.{Begins, begins-split}
use Rattle.back_channel.proofs.Leading.{same-self, begins-is}

begins-more : (ss ts : List Tuple) → begins_with ss (ss ++ ts) ≡ true
begins-more [] ts = refl
begins-more (s ∷ ss) ts = both_true (same-self s) (begins-more ss ts)

pub begins-true : (ss ts : List Tuple) → ss ≡ take (length ss) ts → begins_with ss ts ≡ true
begins-true ss ts h =
    let k : Begins ss ts = record { is = h } in
    ap (begins_with ss) (begins-split ss ts k) ∙ begins-more ss (drop (length ss) ts)

-- a test is false where it can't be true
not-true : (b : Bool) → (b ≡ true → ⊥) → b ≡ false
not-true true h = absurd (h refl)
not-true false h = refl

not-same : (m n : ℕ) → m < n → (m == n) ≡ false
not-same m n less = not-true (m == n) (λ e. let same = eqb-true m n e in omega (arith, same, less))

pub agree-all : (n count : ℕ) (ts old new : List Tuple) → IsFront count ts old → Agrees n ts new → count ≤ n → (n == count) ≡ begins_with ts new
agree-all n count ts old new front agrees all =
    let few = agrees.within_first in
    let long = front.count in
    let same : n ≡ length ts = omega (arith, few, long, all) in
    let begins : ts ≡ take (length ts) new =
    sym (take_all (length ts) ts (omega arith)) ∙ ap (λ m. take m ts) (sym same) ∙ agrees.same ∙ ap (λ m. take m new) same in
    (Decides-eqb n count).1 (omega (arith, few, long, all)) ∙ sym (begins-true ts new begins)

pub agree-short : (n count : ℕ) (ts old new : List Tuple) → IsFront count ts old → Agrees n ts new → n < count → length new ≤ n → (n == count) ≡ begins_with ts new
agree-short n count ts old new front agrees less short =
    not-same n count less ∙ sym (not-true (begins_with ts new) (λ e.
    let split = ap (λ (us : List Tuple). length us) (begins-is ts new e) in
    let long = length-append ts (drop (length ts) new) in
    let count = front.count in omega (arith, split, long, count, less, short)))

pub agree-differ : (n count : ℕ) (ts old new : List Tuple) (t u : Tuple) → IsFront count ts old → n < count → n < length old → n < length new
    → t ≡ get_or old n t → u ≡ get_or new n u → t ≢ u → (n == count) ≡ begins_with ts new
agree-differ n count ts old new t u front less inside within is other differ =
    not-same n count less ∙ sym (not-true (begins_with ts new) (λ e.
    let long = front.count in
    let there : n < length ts = omega (arith, long, less) in
    let in-new : get_or new n t ≡ get_or ts n t = ap (λ (us : List Tuple). get_or us n t) (begins-is ts new e) ∙ get_or_append_left ts (drop (length ts) new) t n there in
    let in-old : get_or ts n t ≡ get_or old n t = ap (λ (us : List Tuple). get_or us n t) front.begins ∙ get_or-take (length ts) old n t there in
    let same : u ≡ get_or new n t = other ∙ get_or_default new n u t within in
    differ (is ∙ sym in-old ∙ sym in-new ∙ sym same)))
