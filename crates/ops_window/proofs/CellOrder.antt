-- The cells of windows one after the other are in order, and equal look-ups give equal cells.
use Rattle.std.proofs.Common.{◌≡◌, ℕ, zero, suc, ◌+◌, ◌*◌, ◌<◌, ◌≤◌, true, false, List, [], ◌∷◌, ◌++◌, map, refl, ◌∙◌, ap, arith, ℤ, Option, Some, None, nat_lt}
use Rattle.std.proofs.lemmas.Grind.{common_steps}
use Rattle.std.specs.declared.cmp.Ordering.{Ordering}
use Rattle.std.specs.declared.cmp.Ordering.TheVariants.{Less, Equal, Greater}
use Rattle.std.specs.Ordering.{nat_cmp, int_cmp, ordering_reverse}
use Rattle.std.specs.List.{AllByRecursion}
use Rattle.std.specs.List.Sorted.{IsStrictlySortedBy}
use Rattle.std.specs.Map.{keys_of}
use Rattle.dpc_model.specs.Operators.{between, distinct_values}
use Rattle.dpc_model.specs.declared.tuples.Tuple.{Tuple}
use Rattle.dpc_model.specs.declared.operators.Agg.{Agg}
use Rattle.ops_window.specs.Windows.{Cell, exact_total, group_of, in_group, window_cells}
use Rattle.ops_window.specs.Feeding.{cell_cmp, totals_at}
use Rattle.ops_window.proofs.Steps.{cell_cmp_total}
use Rattle.ops_window.proofs.Lookups.{cell_cmp_exact, is_key, is_key-itself, is_key-same, all-after}
use Rattle.ops_window.proofs.WindowCells.{distinct-sorted, cells_of}

-- ---- what holds of each begin

-- a fact on the begin of each cell
abbrev pub EachBegin : (ℕ → Type 0) → List Cell → Type 0
EachBegin P cells = AllByRecursion (λ (c : Cell). P c.0.0) cells

each-append : (P : ℕ → Type 0) (xs ys : List Cell) → EachBegin P xs → EachBegin P ys → EachBegin P (xs ++ ys)
each-append P [] ys h k = k
each-append P (x ∷ xs) ys h k = (h.0, each-append P xs ys h.1 k)

each-map : (P : ℕ → Type 0) (begin : ℕ) (f : ℤ → List ℤ) (zs : List ℤ) → P begin → EachBegin P (map (λ z. ((begin, z), f z)) zs)
each-map P begin f [] p = tt
each-map P begin f (z ∷ zs) p = (p, each-map P begin f zs p)

each-weaker : (P Q : ℕ → Type 0) → ((s : ℕ) → P s → Q s) → (xs : List Cell) → EachBegin P xs → EachBegin Q xs
each-weaker P Q w [] h = tt
each-weaker P Q w (x ∷ xs) h = (w x.0.0 h.0, each-weaker P Q w xs h.1)

pub window_cells-each : (P : ℕ → Type 0) (group : Option ℕ) (aggs : List Agg) (begin : ℕ) (us : List Tuple) → P begin → EachBegin P (window_cells group aggs begin us)
window_cells-each P group aggs begin us p = each-map P begin _ (distinct_values (map (group_of group) us)) p

module _ (size step : ℕ) (group : Option ℕ) (aggs : List Agg) (ts : List Tuple) where
  pub cells_of-each : (P : ℕ → Type 0) (a n : ℕ) → ((j : ℕ) → a ≤ j → j < a + n → P (j * step)) → EachBegin P (cells_of size step group aggs ts a n)
  cells_of-each P a zero h = tt
  cells_of-each P a (suc n) h =
      each-append P (window_cells group aggs (a * step) (between (a * step) (a * step + size) ts)) (cells_of size step group aggs ts (a + 1) n)
      (window_cells-each P group aggs (a * step) (between (a * step) (a * step + size) ts) (h a (omega arith) (omega arith)))
      (cells_of-each P (a + 1) n (λ j low high. h j (omega (arith, low)) (omega (arith, high))))

-- ---- order

same_begin : (s : ℕ) (z y : ℤ) → int_cmp z y ≡ Less → cell_cmp (s, z) (s, y) ≡ Less
same_begin s z y e = let self : nat_cmp s s ≡ Equal = grind (arith, common_steps) in rw (self, e) refl

later_begin : (s n : ℕ) (z y : ℤ) → s < n → cell_cmp (s, z) (n, y) ≡ Less
later_begin s n z y h = let less : nat_lt s n ≡ true = grind (arith, common_steps) in rw less refl

after-window : (s : ℕ) (z : ℤ) (f : ℤ → List ℤ) (zs : List ℤ) (rest : List Cell) → AllByRecursion (λ y. int_cmp z y ≡ Less) zs → EachBegin (λ n. s < n) rest →
    AllByRecursion (λ k. cell_cmp (s, z) k ≡ Less) (keys_of (map (λ y. ((s, y), f y)) zs ++ rest))
after-window s z f [] [] h l = tt
after-window s z f [] (r ∷ rest) h l = (later_begin s r.0.0 z r.0.1 l.0, after-window s z f [] rest h l.1)
after-window s z f (y ∷ zs) rest h l = (same_begin s z y h.0, after-window s z f zs rest h.1 l)

window-sorted : (s : ℕ) (f : ℤ → List ℤ) (zs : List ℤ) (rest : List Cell) → IsStrictlySortedBy int_cmp zs → EachBegin (λ n. s < n) rest → IsStrictlySortedBy cell_cmp (keys_of rest) →
    IsStrictlySortedBy cell_cmp (keys_of (map (λ y. ((s, y), f y)) zs ++ rest))
unfolding IsStrictlySortedBy
window-sorted s f [] rest h l o = o
window-sorted s f (z ∷ zs) rest h l o = (after-window s z f zs rest h.0 l, window-sorted s f zs rest h.1 l o)

pub cells_of-sorted : (size step : ℕ) (group : Option ℕ) (aggs : List Agg) (ts : List Tuple) (a n : ℕ) → 0 < step →
    IsStrictlySortedBy cell_cmp (keys_of (cells_of size step group aggs ts a n))
unfolding IsStrictlySortedBy
cells_of-sorted size step group aggs ts a zero positive = tt
cells_of-sorted size step group aggs ts a (suc n) positive =
    let us = between (a * step) (a * step + size) ts in
    window-sorted (a * step) (λ z. map (exact_total (in_group group z us)) aggs) (distinct_values (map (group_of group) us)) (cells_of size step group aggs ts (a + 1) n)
    (distinct-sorted (map (group_of group) us))
    (cells_of-each size step group aggs ts (λ m. a * step < m) (a + 1) n (λ j low high. later j low))
    (cells_of-sorted size step group aggs ts (a + 1) n positive)
  where
    later : (j : ℕ) → a + 1 ≤ j → a * step < j * step
    later j low = grind (arith, common_steps)

-- ---- equal look-ups

none_below : (q : ℕ × ℤ) (es : List Cell) → AllByRecursion (λ k. cell_cmp q k ≡ Less) (keys_of es) → totals_at q es ≡ None
none_below q [] h = refl
none_below q (e ∷ es) h = rw h.0 (none_below q es h.1)

at_head : (e : Cell) (es : List Cell) → totals_at e.0 (e ∷ es) ≡ Some e.1
at_head e es = rw (is_key-itself e.0) refl

head_below : (k : ℕ × ℤ) (e : Cell) (es : List Cell) → cell_cmp k e.0 ≡ Less → IsStrictlySortedBy cell_cmp (keys_of (e ∷ es)) → totals_at k (e ∷ es) ≡ None
unfolding IsStrictlySortedBy
head_below k e es l s = none_below k (e ∷ es) (l, all-after k e.0 (keys_of es) l s.0)

tail_none : (e : Cell) (es : List Cell) → IsStrictlySortedBy cell_cmp (keys_of (e ∷ es)) → totals_at e.0 es ≡ None
unfolding IsStrictlySortedBy
tail_none e es s = none_below e.0 es s.0

tail_sorted : (e : Cell) (es : List Cell) → IsStrictlySortedBy cell_cmp (keys_of (e ∷ es)) → IsStrictlySortedBy cell_cmp (keys_of es)
unfolding IsStrictlySortedBy
tail_sorted e es s = s.1

module _ (x y : Cell) (xs ys : List Cell) (s : IsStrictlySortedBy cell_cmp (keys_of (x ∷ xs))) (t : IsStrictlySortedBy cell_cmp (keys_of (y ∷ ys)))
    (h : (q : ℕ × ℤ) → totals_at q (x ∷ xs) ≡ totals_at q (y ∷ ys)) where
  same_key : (r : Ordering) → cell_cmp x.0 y.0 ≡ r → x.0 ≡ y.0
  same_key Less e = let some = at_head x xs in let none = head_below x.0 y ys e t in let both = h x.0 in absurd (cc)
  same_key Equal e = cell_cmp_exact x.0 y.0 e
  same_key Greater e =
      let below : cell_cmp y.0 x.0 ≡ Less = cell_cmp_total.antisymm y.0 x.0 ∙ ap ordering_reverse e in
      let some = at_head y ys in
      let none = head_below y.0 x xs below s in
      let both = h y.0 in
      absurd (cc)

  first_key : x.0 ≡ y.0
  first_key = same_key (cell_cmp x.0 y.0) refl

  first_totals : x.1 ≡ y.1
  first_totals =
      let left = at_head x xs in
      let right : totals_at x.0 (y ∷ ys) ≡ Some y.1 = ap (λ (k : ℕ × ℤ). totals_at k (y ∷ ys)) first_key ∙ at_head y ys in
      let both = h x.0 in
      cc

  rests : (q : ℕ × ℤ) → totals_at q xs ≡ totals_at q ys
  rests q =
      (elim (is_key q x.0) as (λ b. is_key q x.0 ≡ b → totals_at q xs ≡ totals_at q ys) [
        | true ↦ λ e.
            let here : q ≡ x.0 = is_key-same q x.0 e in
            let left : totals_at q xs ≡ None = rw here (tail_none x xs s) in
            let right : totals_at q ys ≡ None = rw (here, first_key) (tail_none y ys t) in
            cc
        | false ↦ λ e.
            let other : is_key q y.0 ≡ false = rw (← first_key) e in
            let left : totals_at q (x ∷ xs) ≡ totals_at q xs = rw e refl in
            let right : totals_at q (y ∷ ys) ≡ totals_at q ys = rw other refl in
            let both = h q in
            cc
      ]) refl

-- cells in order that hold the same at every key are the same
pub same_cells : (xs ys : List Cell) → IsStrictlySortedBy cell_cmp (keys_of xs) → IsStrictlySortedBy cell_cmp (keys_of ys) → ((q : ℕ × ℤ) → totals_at q xs ≡ totals_at q ys) → xs ≡ ys
same_cells [] [] s t h = refl
same_cells [] (y ∷ ys) s t h = let some = at_head y ys in let both = h y.0 in absurd (cc)
same_cells (x ∷ xs) [] s t h = let some = at_head x xs in let both = h x.0 in absurd (cc)
same_cells (x ∷ xs) (y ∷ ys) s t h =
    let key = first_key x y xs ys s t h in
    let totals = first_totals x y xs ys s t h in
    let first : x ≡ y = λ i. (key i, totals i) in
    let rest = same_cells xs ys (tail_sorted x xs s) (tail_sorted y ys t) (rests x y xs ys s t h) in
    cc
