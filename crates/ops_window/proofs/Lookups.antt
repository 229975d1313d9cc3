-- What the cells hold at a key after one of them changes.
use Rattle.std.proofs.Common.{◌≡◌, ℕ, ◌==◌, ◌&&◌, Bool, true, false, cond, List, [], ◌∷◌, refl, ◌∙◌, ap, arith, ℤ, int_eq, Some, nat_lt}
use Rattle.std.proofs.lemmas.Grind.{common_steps}
use Rattle.std.proofs.lemmas.Cmp.{eq_by_cmp_equiv, tied_itself}
use Rattle.std.proofs.lemmas.Map.Lookups.{CmpEqualImpliesEq, exact_pairs, exact_unsigned, exact_signed}
use Rattle.std.specs.declared.cmp.Ordering.{Ordering}
use Rattle.std.specs.declared.cmp.Ordering.TheVariants.{Less, Equal, Greater}
use Rattle.std.specs.Ordering.{nat_cmp, int_cmp, ordering_then, is_eq, ordering_reverse, match_ordering}
use Rattle.std.specs.List.{AllByRecursion}
use Rattle.std.specs.List.Sorted.{IsStrictlySortedBy}
use Rattle.std.specs.Map.{keys_of}
use Rattle.std.specs.BTreeMap.{insert_entry, is_at}
use Rattle.dpc_model.specs.declared.tuples.Tuple.{Tuple}
use Rattle.dpc_model.specs.declared.operators.Agg.{Agg}
use Rattle.dpc_lists.proofs.Truths.{equal_from}
use Rattle.ops_window.specs.Windows.{Cell}
use Rattle.ops_window.specs.Feeding.{cell_cmp, totals_at, take_cell, grown}
use Rattle.ops_window.proofs.Steps.{cell_cmp_total}

-- ---- keys

-- whether two keys are the same
abbrev pub is_key : ℕ × ℤ → ℕ × ℤ → Bool
is_key q k = is_at (cell_cmp q) k

pub cell_cmp_exact : CmpEqualImpliesEq cell_cmp
cell_cmp_exact = exact_pairs nat_cmp int_cmp exact_unsigned exact_signed

pub is_key-same : (q k : ℕ × ℤ) → is_key q k ≡ true → q ≡ k
is_key-same q k e = cell_cmp_exact q k (equal_from (cell_cmp q k) e)

pub is_key-itself : (q : ℕ × ℤ) → is_key q q ≡ true
is_key-itself q = ap is_eq (tied_itself cell_cmp_total q)

pub is_key-flip : (q k : ℕ × ℤ) → is_key q k ≡ is_key k q
is_key-flip q k = (eq_by_cmp_equiv cell_cmp_total).symm q k

-- part by part
pub is_key-parts : (s begin : ℕ) (q z : ℤ) → is_key (s, q) (begin, z) ≡ ((s == begin) && int_eq q z)
is_key-parts s begin q z =
    (elim (nat_lt s begin) as (λ b. nat_lt s begin ≡ b → is_eq (ordering_then (cond b Less (cond (s == begin) Equal Greater)) (int_cmp q z)) ≡ ((s == begin) && int_eq q z)) [
      | true ↦ λ e. let apart : (s == begin) ≡ false = grind (arith, common_steps) in rw apart refl
      | false ↦ λ e. elim (s == begin) as (λ b. is_eq (ordering_then (cond b Equal Greater) (int_cmp q z)) ≡ (b && int_eq q z)) [ true ↦ refl | false ↦ refl ]
    ]) refl

-- ---- one cell

pub lookup-insert_entry : (q k : ℕ × ℤ) (v : List ℤ) (es : List Cell) →
    totals_at q (insert_entry cell_cmp es k v) ≡ cond (is_key q k) (Some v) (totals_at q es)
lookup-insert_entry q k v [] = refl
lookup-insert_entry q k v (e ∷ es) = by (cell_cmp k e.0) refl (lookup-insert_entry q k v es)
  where
    by : (r : Ordering) → cell_cmp k e.0 ≡ r → totals_at q (insert_entry cell_cmp es k v) ≡ cond (is_key q k) (Some v) (totals_at q es) →
        totals_at q (match_ordering r ((k, v) ∷ e ∷ es) ((e.0, v) ∷ es) (e ∷ insert_entry cell_cmp es k v)) ≡ cond (is_key q k) (Some v) (totals_at q (e ∷ es))
    by Less c h = refl
    by Equal c h =
        let same : k ≡ e.0 = cell_cmp_exact k e.0 c in
        rw same (elim (is_key q e.0) as (λ b. cond b (Some v) (totals_at q es) ≡ cond b (Some v) (cond b (Some e.1) (totals_at q es))) [ true ↦ refl | false ↦ refl ])
    by Greater c h =
        (elim (is_key q e.0) as (λ b. is_key q e.0 ≡ b → cond b (Some e.1) (totals_at q (insert_entry cell_cmp es k v)) ≡ cond (is_key q k) (Some v) (cond b (Some e.1) (totals_at q es))) [
          | true ↦ λ i.
              let here : q ≡ e.0 = is_key-same q e.0 i in
              let other : is_key q k ≡ false = is_key-flip q k ∙ rw here (ap is_eq c) in
              rw other refl
          | false ↦ λ i. h
        ]) refl

pub totals_at-take_cell : (aggs : List Agg) (t : Tuple) (q key : ℕ × ℤ) (cells : List Cell) →
    totals_at q (take_cell aggs t cells key) ≡ cond (is_key q key) (Some (grown aggs t (totals_at key cells))) (totals_at q cells)
totals_at-take_cell aggs t q key cells = lookup-insert_entry q key (grown aggs t (totals_at key cells)) cells

-- ---- order

insert-all : (P : ℕ × ℤ → Type 0) (k : ℕ × ℤ) (v : List ℤ) (es : List Cell) → P k → AllByRecursion P (keys_of es) → AllByRecursion P (keys_of (insert_entry cell_cmp es k v))
insert-all P k v [] p h = (p, tt)
insert-all P k v (e ∷ es) p h =
    elim (cell_cmp k e.0) as (λ r. AllByRecursion P (keys_of (match_ordering r ((k, v) ∷ e ∷ es) ((e.0, v) ∷ es) (e ∷ insert_entry cell_cmp es k v)))) [
      | Less ↦ (p, h)
      | Equal ↦ h
      | Greater ↦ (h.0, insert-all P k v es p h.1)
    ]

pub all-after : (k j : ℕ × ℤ) (ks : List (ℕ × ℤ)) → cell_cmp k j ≡ Less → AllByRecursion (λ y. cell_cmp j y ≡ Less) ks → AllByRecursion (λ y. cell_cmp k y ≡ Less) ks
all-after k j [] e h = tt
all-after k j (y ∷ ks) e h = (cell_cmp_total.trans k j y e h.0, all-after k j ks e h.1)

pub insert-sorted : (k : ℕ × ℤ) (v : List ℤ) (es : List Cell) → IsStrictlySortedBy cell_cmp (keys_of es) → IsStrictlySortedBy cell_cmp (keys_of (insert_entry cell_cmp es k v))
unfolding IsStrictlySortedBy
insert-sorted k v [] s = (tt, tt)
insert-sorted k v (e ∷ es) s =
    (elim (cell_cmp k e.0) as (λ r. cell_cmp k e.0 ≡ r → IsStrictlySortedBy cell_cmp (keys_of (match_ordering r ((k, v) ∷ e ∷ es) ((e.0, v) ∷ es) (e ∷ insert_entry cell_cmp es k v)))) [
      | Less ↦ λ c. ((c, all-after k e.0 (keys_of es) c s.0), s)
      | Equal ↦ λ c. s
      | Greater ↦ λ c.
          let later : cell_cmp e.0 k ≡ Less = cell_cmp_total.antisymm e.0 k ∙ ap ordering_reverse c in
          (insert-all (λ y. cell_cmp e.0 y ≡ Less) k v es later s.0, insert-sorted k v es s.1)
    ]) refl

pub take_cell-sorted : (aggs : List Agg) (t : Tuple) (cells : List Cell) (key : ℕ × ℤ) → IsStrictlySortedBy cell_cmp (keys_of cells) → IsStrictlySortedBy cell_cmp (keys_of (take_cell aggs t cells key))
take_cell-sorted aggs t cells key s = insert-sorted key (grown aggs t (totals_at key cells)) cells s
