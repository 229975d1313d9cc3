-- The cells of some windows one after the other: their order, and what they hold at a key.
use Rattle.std.proofs.Common.{◌≡◌, ℕ, zero, suc, ◌+◌, ◌*◌, ◌==◌, ◌&&◌, ◌||◌, not, Bool, true, false, cond, List, [], ◌∷◌, ◌++◌, map, refl, sym, ◌∙◌, ap, arith, ℤ, int_eq, int_lt, Option, Some, None}
use Rattle.std.proofs.lemmas.Grind.{common_steps}
use Rattle.std.proofs.lemmas.Bool.{eqb-true}
use Rattle.std.proofs.lemmas.Bool.Decides.{Decides-int_eq}
use Rattle.std.proofs.lemmas.Cmp.{int_eq_equiv, int_cmp_total}
use Rattle.std.specs.declared.cmp.Ordering.{Ordering}
use Rattle.std.specs.declared.cmp.Ordering.TheVariants.{Less, Equal, Greater}
use Rattle.std.specs.Ordering.{int_cmp, is_eq, ordering_reverse}
use Rattle.std.specs.List.{AllByRecursion, flat_map, list_any}
use Rattle.std.specs.List.Sorted.{IsStrictlySortedBy}
use Rattle.dpc_lists.specs.Lists.{range_with_len, is_nil}
use Rattle.dpc_model.specs.Operators.{between, distinct_values, insert_value}
use Rattle.dpc_model.specs.declared.tuples.Tuple.{Tuple}
use Rattle.dpc_model.specs.declared.operators.Agg.{Agg}
use Rattle.dpc_lists.proofs.Truths.{or-second}
use Rattle.ops_window.specs.Windows.{Cell, exact_total, group_of, in_group, window_cells}
use Rattle.ops_window.specs.Feeding.{totals_at}
use Rattle.ops_window.proofs.Lookups.{is_key, is_key-parts}

-- ---- distinct values

insert_value-has : (q y : ℤ) (ys : List ℤ) → list_any (int_eq q) (insert_value y ys) ≡ (int_eq q y || list_any (int_eq q) ys)
insert_value-has q y [] = refl
insert_value-has q y (x ∷ xs) =
    (elim (int_eq y x) as (λ b. int_eq y x ≡ b → list_any (int_eq q) (cond b (x ∷ xs) (cond (int_lt y x) (y ∷ x ∷ xs) (x ∷ insert_value y xs))) ≡ (int_eq q y || list_any (int_eq q) (x ∷ xs))) [
      | true ↦ λ e.
          let same : y ≡ x = (Decides-int_eq y x).0 e in
          rw same (elim (int_eq q x) as (λ b. (b || list_any (int_eq q) xs) ≡ (b || (b || list_any (int_eq q) xs))) [ true ↦ refl | false ↦ refl ])
      | false ↦ λ e.
          elim (int_lt y x) as (λ b. list_any (int_eq q) (cond b (y ∷ x ∷ xs) (x ∷ insert_value y xs)) ≡ (int_eq q y || list_any (int_eq q) (x ∷ xs))) [
            | true ↦ refl
            | false ↦ rw (insert_value-has q y xs) (or-second (int_eq q x) (int_eq q y) (list_any (int_eq q) xs))
          ]
    ]) refl

pub distinct-has : (q : ℤ) (zs : List ℤ) → list_any (int_eq q) (distinct_values zs) ≡ list_any (int_eq q) zs
distinct-has q [] = refl
distinct-has q (z ∷ zs) = insert_value-has q z (distinct_values zs) ∙ ap (λ b. int_eq q z || b) (distinct-has q zs)

int_less : (x y : ℤ) → int_lt x y ≡ true → int_cmp x y ≡ Less
int_less x y e = rw e refl

int_more : (x y : ℤ) → int_eq x y ≡ false → int_lt x y ≡ false → int_cmp y x ≡ Less
int_more x y e f = by (int_cmp x y) refl
  where
    by : (r : Ordering) → int_cmp x y ≡ r → int_cmp y x ≡ Less
    by Less c = absurd (less f c)
      where
        less : int_lt x y ≡ false → int_cmp x y ≡ Less → ⊥
        less g d = grind (arith, common_steps)
    by Equal c = let same : int_eq x y ≡ true = ap is_eq c in absurd (cc)
    by Greater c = int_cmp_total.antisymm y x ∙ ap ordering_reverse c

pub insert_value-all : (P : ℤ → Type 0) (y : ℤ) (ys : List ℤ) → P y → AllByRecursion P ys → AllByRecursion P (insert_value y ys)
insert_value-all P y [] p h = (p, tt)
insert_value-all P y (x ∷ xs) p h =
    elim (int_eq y x) as (λ b. AllByRecursion P (cond b (x ∷ xs) (cond (int_lt y x) (y ∷ x ∷ xs) (x ∷ insert_value y xs)))) [
      | true ↦ h
      | false ↦ elim (int_lt y x) as (λ b. AllByRecursion P (cond b (y ∷ x ∷ xs) (x ∷ insert_value y xs))) [
        | true ↦ (p, h)
        | false ↦ (h.0, insert_value-all P y xs p h.1)
      ]
    ]

all-above : (x y : ℤ) (ys : List ℤ) → int_cmp x y ≡ Less → AllByRecursion (λ z. int_cmp y z ≡ Less) ys → AllByRecursion (λ z. int_cmp x z ≡ Less) ys
all-above x y [] e h = tt
all-above x y (z ∷ ys) e h = (int_cmp_total.trans x y z e h.0, all-above x y ys e h.1)

insert_value-sorted : (y : ℤ) (ys : List ℤ) → IsStrictlySortedBy int_cmp ys → IsStrictlySortedBy int_cmp (insert_value y ys)
unfolding IsStrictlySortedBy
insert_value-sorted y [] s = (tt, tt)
insert_value-sorted y (x ∷ xs) s =
    (elim (int_eq y x) as (λ b. int_eq y x ≡ b → IsStrictlySortedBy int_cmp (cond b (x ∷ xs) (cond (int_lt y x) (y ∷ x ∷ xs) (x ∷ insert_value y xs)))) [
      | true ↦ λ e. s
      | false ↦ λ e.
          (elim (int_lt y x) as (λ b. int_lt y x ≡ b → IsStrictlySortedBy int_cmp (cond b (y ∷ x ∷ xs) (x ∷ insert_value y xs))) [
            | true ↦ λ f. ((int_less y x f, all-above y x xs (int_less y x f) s.0), s)
            | false ↦ λ f. (insert_value-all (λ z. int_cmp x z ≡ Less) y xs (int_more y x e f) s.0, insert_value-sorted y xs s.1)
          ]) refl
    ]) refl

pub distinct-sorted : (zs : List ℤ) → IsStrictlySortedBy int_cmp (distinct_values zs)
unfolding IsStrictlySortedBy
distinct-sorted [] = tt
distinct-sorted (z ∷ zs) = insert_value-sorted z (distinct_values zs) (distinct-sorted zs)

-- ---- the cells of one window

pub groups-have : (group : Option ℕ) (q : ℤ) (us : List Tuple) → list_any (int_eq q) (map (group_of group) us) ≡ not (is_nil (in_group group q us))
groups-have group q [] = refl
groups-have group q (u ∷ us) =
    rw (int_eq_equiv.symm q (group_of group u))
    (elim (int_eq (group_of group u) q) as (λ b. (b || list_any (int_eq q) (map (group_of group) us)) ≡ not (is_nil (cond b (u ∷ in_group group q us) (in_group group q us)))) [
      | true ↦ refl
      | false ↦ groups-have group q us
    ])

-- the totals over some tuples, if there are any
abbrev pub totals_over : List Agg → List Tuple → Option (List ℤ)
totals_over aggs [] = None
totals_over aggs (u ∷ us) = Some (map (exact_total (u ∷ us)) aggs)

totals_over-nil : (aggs : List Agg) (us : List Tuple) → cond (not (is_nil us)) (Some (map (exact_total us) aggs)) None ≡ totals_over aggs us
totals_over-nil aggs [] = refl
totals_over-nil aggs (u ∷ us) = refl

cells-at : (s start : ℕ) (q : ℤ) (f : ℤ → List ℤ) (zs : List ℤ) →
    totals_at (s, q) (map (λ z. ((start, z), f z)) zs) ≡ cond ((s == start) && list_any (int_eq q) zs) (Some (f q)) None
cells-at s start q f [] = elim (s == start) as (λ b. None ≡ cond (b && false) (Some (f q)) None) [ true ↦ refl | false ↦ refl ]
cells-at s start q f (z ∷ zs) =
    rw (is_key-parts s start q z, cells-at s start q f zs)
    (elim (s == start) as (λ b. cond (b && int_eq q z) (Some (f z)) (cond (b && list_any (int_eq q) zs) (Some (f q)) None) ≡ cond (b && (int_eq q z || list_any (int_eq q) zs)) (Some (f q)) None) [
      | true ↦
          (elim (int_eq q z) as (λ b. int_eq q z ≡ b → cond b (Some (f z)) (cond (list_any (int_eq q) zs) (Some (f q)) None) ≡ cond (b || list_any (int_eq q) zs) (Some (f q)) None) [
            | true ↦ λ e. let same : q ≡ z = (Decides-int_eq q z).0 e in rw same refl
            | false ↦ λ e. refl
          ]) refl
      | false ↦ refl
    ])

pub window_cells-at : (group : Option ℕ) (aggs : List Agg) (s start : ℕ) (q : ℤ) (us : List Tuple) →
    totals_at (s, q) (window_cells group aggs start us) ≡ cond (s == start) (totals_over aggs (in_group group q us)) None
window_cells-at group aggs s start q us =
    cells-at s start q (λ z. map (exact_total (in_group group z us)) aggs) (distinct_values (map (group_of group) us))
    ∙ rw (distinct-has q (map (group_of group) us), groups-have group q us)
    (elim (s == start) as (λ b. cond (b && not (is_nil (in_group group q us))) (Some (map (exact_total (in_group group q us)) aggs)) None ≡ cond b (totals_over aggs (in_group group q us)) None) [
      | true ↦ totals_over-nil aggs (in_group group q us)
      | false ↦ refl
    ])

-- ---- the cells of windows one after the other

totals_at-append : (k : ℕ × ℤ) (xs ys : List Cell) (o : Option (List ℤ)) → totals_at k xs ≡ None → totals_at k ys ≡ o → totals_at k (xs ++ ys) ≡ o
totals_at-append k [] ys o e f = f
totals_at-append k (x ∷ xs) ys o e f =
    (elim (is_key k x.0) as (λ b. cond b (Some x.1) (totals_at k xs) ≡ None → cond b (Some x.1) (totals_at k (xs ++ ys)) ≡ o) [
      | true ↦ λ g. absurd (cc)
      | false ↦ λ g. totals_at-append k xs ys o g f
    ]) e

totals_at-first : (k : ℕ × ℤ) (xs ys : List Cell) (v : List ℤ) → totals_at k xs ≡ Some v → totals_at k (xs ++ ys) ≡ Some v
totals_at-first k [] ys v e = absurd (cc)
totals_at-first k (x ∷ xs) ys v e =
    (elim (is_key k x.0) as (λ b. cond b (Some x.1) (totals_at k xs) ≡ Some v → cond b (Some x.1) (totals_at k (xs ++ ys)) ≡ Some v) [
      | true ↦ λ g. g
      | false ↦ λ g. totals_at-first k xs ys v g
    ]) e

two_parts : (k : ℕ × ℤ) (xs ys : List Cell) (here later : Bool) (o : Option (List ℤ)) → totals_at k xs ≡ cond here o None → totals_at k ys ≡ cond later o None →
    totals_at k (xs ++ ys) ≡ cond (here || later) o None
two_parts k xs ys false later o e f = totals_at-append k xs ys (cond later o None) e f
two_parts k xs ys true later (Some v) e f = totals_at-first k xs ys v e
two_parts k xs ys true true None e f = totals_at-append k xs ys None e f
two_parts k xs ys true false None e f = totals_at-append k xs ys None e f

-- the tuples of the cell with this begin and group
abbrev pub seen : ℕ → Option ℕ → List Tuple → ℕ → ℤ → List Tuple
seen size group ts s q = in_group group q (between s (s + size) ts)

module _ (step : ℕ) where
  -- whether a time is the begin of one of n windows from number a on
  abbrev pub begins_one : ℕ → ℕ → ℕ → Bool
  begins_one a n s = list_any (λ j. s == j * step) (range_with_len a n)

module _ (size step : ℕ) (group : Option ℕ) (aggs : List Agg) (ts : List Tuple) where
  -- the cells of n windows from number a on
  abbrev pub cells_of : ℕ → ℕ → List Cell
  cells_of a n = flat_map (λ j. window_cells group aggs (j * step) (between (j * step) (j * step + size) ts)) (range_with_len a n)

  first-at : (s : ℕ) (q : ℤ) (begin : ℕ) → totals_at (s, q) (window_cells group aggs begin (between begin (begin + size) ts)) ≡ cond (s == begin) (totals_over aggs (seen size group ts s q)) None
  first-at s q begin =
      window_cells-at group aggs s begin q (between begin (begin + size) ts)
      ∙ (elim (s == begin) as (λ b. (s == begin) ≡ b → cond b (totals_over aggs (in_group group q (between begin (begin + size) ts))) None ≡ cond b (totals_over aggs (seen size group ts s q)) None) [
        | true ↦ λ e. let here : begin ≡ s = sym (eqb-true s begin e) in ap (λ (n : ℕ). totals_over aggs (in_group group q (between n (n + size) ts))) here
        | false ↦ λ e. refl
      ]) refl

  -- at each begin and group stand the totals over the tuples seen there
  pub cells_of-at : (s : ℕ) (q : ℤ) (a n : ℕ) → totals_at (s, q) (cells_of a n) ≡ cond (begins_one step a n s) (totals_over aggs (seen size group ts s q)) None
  cells_of-at s q a zero = refl
  cells_of-at s q a (suc n) =
      two_parts (s, q) (window_cells group aggs (a * step) (between (a * step) (a * step + size) ts)) (cells_of (a + 1) n) (s == a * step) (begins_one step (a + 1) n s) (totals_over aggs (seen size group ts s q))
      (first-at s q (a * step)) (cells_of-at s q (a + 1) n)
