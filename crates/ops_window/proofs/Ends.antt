-- Windows that end: their cells stand first, and their rows are what the bucket adds.
use Rattle.std.proofs.Common.{◌≡◌, ℕ, zero, suc, ◌+◌, ◌-◌, ◌*◌, ◌<◌, ◌≤◌, ◌&&◌, true, false, cond, List, [], ◌∷◌, ◌++◌, map, refl, sym, ◌∙◌, ap, arith, ℤ, pos, int_eq, Option, Some, None, nat_lt, nat_le}
use Rattle.std.proofs.lemmas.Bool.{le-leb, lt-leb, le-ltb}
use Rattle.std.proofs.lemmas.List.{append-nil, append_assoc, map-append}
use Rattle.std.proofs.lemmas.List.Elements.{filter-append}
use Rattle.std.specs.List.{AllByRecursion, filter, flat_map}
use Rattle.dpc_lists.specs.Lists.{range_with_len}
use Rattle.dpc_model.specs.Streams.{is_below}
use Rattle.dpc_model.specs.Values.{column}
use Rattle.dpc_model.specs.Operators.{between, window_rows, group_rows, tuple_of, total_of, distinct_values}
use Rattle.dpc_model.specs.declared.tuples.Tuple.{Tuple}
use Rattle.dpc_model.specs.declared.operators.Agg.{Agg}
use Rattle.ops_window.specs.Windows.{Cell, exact_total, group_of, in_group, window_cells}
use Rattle.ops_window.specs.Feeding.{ended_cells, kept_cells, cell_row}
use Rattle.ops_window.proofs.ExactTotals.{all_finished}
use Rattle.ops_window.proofs.WindowCells.{cells_of}

-- ---- the cells of windows that ended

module _ (size b : ℕ) where
  abbrev pub AllEnded : List Cell → Type 0
  AllEnded cells = AllByRecursion (λ (c : Cell). c.0.0 + size ≤ b) cells

  abbrev pub NoneEnded : List Cell → Type 0
  NoneEnded cells = AllByRecursion (λ (c : Cell). b < c.0.0 + size) cells

  none_ended : (ys : List Cell) → NoneEnded ys → ended_cells size b ys ≡ []
  none_ended [] h = refl
  none_ended (y ∷ ys) h = rw (lt-leb (y.0.0 + size) b h.0) refl

  none_lost : (ys : List Cell) → NoneEnded ys → kept_cells size b ys ≡ ys
  none_lost [] h = refl
  none_lost (y ∷ ys) h = rw (lt-leb (y.0.0 + size) b h.0) refl

  pub ended_cells-split : (xs ys : List Cell) → AllEnded xs → NoneEnded ys → ended_cells size b (xs ++ ys) ≡ xs
  ended_cells-split [] ys h k = none_ended ys k
  ended_cells-split (x ∷ xs) ys h k = rw (le-leb (x.0.0 + size) b h.0) (ap (λ cs. x ∷ cs) (ended_cells-split xs ys h.1 k))

  pub kept_cells-split : (xs ys : List Cell) → AllEnded xs → NoneEnded ys → kept_cells size b (xs ++ ys) ≡ ys
  kept_cells-split [] ys h k = none_lost ys k
  kept_cells-split (x ∷ xs) ys h k = rw (le-leb (x.0.0 + size) b h.0) (kept_cells-split xs ys h.1 k)

-- ---- the rows of a window

module _ (size : ℕ) (aggs : List Agg) (begin : ℕ) (us : List Tuple) where
  each_group : (c : ℕ) (zs : List ℤ) →
      map (cell_row size (Some c) aggs) (map (λ z. ((begin, z), map (exact_total (in_group (Some c) z us)) aggs)) zs)
      ≡ map (λ z. tuple_of (begin + size - 1) (z ∷ map (total_of (filter (λ t. int_eq (column t c) z) us)) aggs)) zs
  each_group c [] = refl
  each_group c (z ∷ zs) = rw (all_finished (in_group (Some c) z us) aggs) (ap (λ (rows : List Tuple). tuple_of (begin + size - 1) (z ∷ map (total_of (in_group (Some c) z us)) aggs) ∷ rows) (each_group c zs))

  one_value : (v : Tuple) (vs : List Tuple) → distinct_values (map (group_of None) (v ∷ vs)) ≡ pos 0 ∷ []
  one_value v [] = refl
  one_value v (w ∷ ws) = rw (one_value w ws) refl

  all_pass : (vs : List Tuple) → in_group None (pos 0) vs ≡ vs
  all_pass [] = refl
  all_pass (v ∷ vs) = ap (λ (ts : List Tuple). v ∷ ts) (all_pass vs)

pub window_cells-rows : (size : ℕ) (group : Option ℕ) (aggs : List Agg) (begin : ℕ) (us : List Tuple) →
    map (cell_row size group aggs) (window_cells group aggs begin us) ≡ group_rows group aggs (begin + size - 1) us
window_cells-rows size None aggs begin [] = refl
window_cells-rows size None aggs begin (u ∷ us) =
    rw (one_value size aggs begin (u ∷ us) u us, all_pass size aggs begin (u ∷ us) (u ∷ us), all_finished (u ∷ us) aggs) refl
window_cells-rows size (Some c) aggs begin us = each_group size aggs begin us c (distinct_values (map (group_of (Some c)) us))

pub cells_of-rows : (size step : ℕ) (group : Option ℕ) (aggs : List Agg) (ts : List Tuple) (a n : ℕ) →
    map (cell_row size group aggs) (cells_of size step group aggs ts a n) ≡ flat_map (λ j. window_rows size group aggs ts (j * step)) (range_with_len a n)
cells_of-rows size step group aggs ts a zero = refl
cells_of-rows size step group aggs ts a (suc n) =
    map-append (cell_row size group aggs) (window_cells group aggs (a * step) (between (a * step) (a * step + size) ts)) (cells_of size step group aggs ts (a + 1) n)
    ∙ rw (window_cells-rows size group aggs (a * step) (between (a * step) (a * step + size) ts), cells_of-rows size step group aggs ts (a + 1) n) refl

-- ---- windows one after the other

pub flat_map-split : {X : Type 0} (f : ℕ → List X) (a n m k c : ℕ) → k ≡ n + m → c ≡ a + n →
    flat_map f (range_with_len a k) ≡ flat_map f (range_with_len a n) ++ flat_map f (range_with_len c m)
flat_map-split f a zero m k c e g =
    let count : k ≡ m = omega (arith, e) in
    let begin : c ≡ a = omega (arith, g) in
    rw (count, begin) refl
flat_map-split f a (suc n) m zero c e g = absurd (omega (arith, e))
flat_map-split f a (suc n) m (suc k) c e g =
    rw (flat_map-split f (a + 1) n m k c (omega (arith, e)) (omega (arith, g)))
    (sym (append_assoc (f a) (flat_map f (range_with_len (a + 1) n)) (flat_map f (range_with_len c m))))

pub flat_map-same : {X : Type 0} (f g : ℕ → List X) (a n : ℕ) → ((j : ℕ) → a ≤ j → j < a + n → f j ≡ g j) → flat_map f (range_with_len a n) ≡ flat_map g (range_with_len a n)
flat_map-same f g a zero h = refl
flat_map-same f g a (suc n) h =
    rw (h a (omega arith) (omega arith)) (ap (λ xs. g a ++ xs) (flat_map-same f g (a + 1) n (λ j low high. h j (omega (arith, low)) (omega (arith, high)))))

pub flat_map-none : {X : Type 0} (f : ℕ → List X) (a n : ℕ) → ((j : ℕ) → a ≤ j → f j ≡ []) → flat_map f (range_with_len a n) ≡ []
flat_map-none f a zero h = refl
flat_map-none f a (suc n) h = rw (h a (omega arith)) (flat_map-none f (a + 1) n (λ j low. h j (omega (arith, low))))

-- ---- the tuples of a window

pub between-early : (from to b : ℕ) (ts : List Tuple) → b ≤ from → AllByRecursion (λ (t : Tuple). t.stime < b) ts → between from to ts ≡ []
between-early from to b [] l h = refl
between-early from to b (t ∷ ts) l h = let late : nat_le from t.stime ≡ false = lt-leb from t.stime (omega (arith, h.0)) in rw late (between-early from to b ts l h.1)

pub between-late : (from to b : ℕ) (ts us : List Tuple) → to ≤ b → AllByRecursion (λ (t : Tuple). b ≤ t.stime) us → between from to (ts ++ us) ≡ between from to ts
between-late from to b ts us l h =
    filter-append (λ (t : Tuple). nat_le from t.stime && is_below to t) ts us
    ∙ ap (λ (vs : List Tuple). between from to ts ++ vs) (none us h)
    ∙ append-nil (between from to ts)
  where
    none : (vs : List Tuple) → AllByRecursion (λ (t : Tuple). b ≤ t.stime) vs → between from to vs ≡ []
    none [] k = refl
    none (v ∷ vs) k =
        let over : nat_lt v.stime to ≡ false = le-ltb v.stime to (omega (arith, k.0)) in
        rw over (elim (nat_le from v.stime) as (λ c. cond (c && false) (v ∷ between from to vs) (between from to vs) ≡ []) [ true ↦ none vs k.1 | false ↦ none vs k.1 ])
