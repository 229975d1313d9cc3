-- The cells of a window are those of its panes, joined.
use Rattle.std.proofs.Common.{◌≡◌, ℕ, zero, suc, ◌+◌, ◌-◌, ◌*◌, ◌<◌, ◌≤◌, ◌==◌, ◌&&◌, ◌||◌, not, Bool, true, false, cond, List, [], ◌∷◌, ◌++◌, map, refl, sym, ◌∙◌, ap, subst, arith, ℤ, int_eq, Option, Some, None}
use Rattle.std.proofs.lemmas.Grind.{common_steps}
use Rattle.std.proofs.lemmas.Bool.{eqb-true, lt-ltb, le-ltb}
use Rattle.std.proofs.lemmas.Bool.Decides.{Decides-int_eq}
use Rattle.std.proofs.lemmas.Cmp.{int_cmp_total, tied_itself}
use Rattle.std.proofs.lemmas.List.{append-nil}
use Rattle.std.proofs.lemmas.List.Sums.{fold-append}
use Rattle.std.specs.declared.cmp.Ordering.TheVariants.{Less, Equal}
use Rattle.std.specs.Ordering.{int_cmp}
use Rattle.std.specs.List.{fold, list_any, AllByRecursion}
use Rattle.std.specs.List.Sorted.{IsStrictlySortedBy}
use Rattle.std.specs.Map.{keys_of}
use Rattle.dpc_lists.specs.Lists.{is_nil}
use Rattle.dpc_model.specs.Operators.{between, distinct_values}
use Rattle.dpc_model.specs.declared.tuples.Tuple.{Tuple}
use Rattle.dpc_model.specs.declared.operators.Agg.{Agg}
use Rattle.ops_window.specs.Windows.{Cell, exact_total, group_of, in_group, window_cells}
use Rattle.ops_window.specs.Feeding.{cell_cmp, totals_at, joined, join_cell, joined_cells, cells_before, cells_behind}
use Rattle.ops_window.proofs.Lookups.{is_key-parts, lookup-insert_entry, insert-sorted}
use Rattle.ops_window.proofs.WindowCells.{totals_over, cells_of, distinct-has, distinct-sorted, groups-have, window_cells-at}
use Rattle.ops_window.proofs.CellOrder.{cells_of-each, cells_of-sorted, same_cells}
use Rattle.ops_window.proofs.Ends.{flat_map-split}
use Rattle.ops_window.proofs.Reach.{times-le}
use Rattle.ops_window.proofs.Joins.{joined_over, totals-joined}

-- ---- one pane

not-among : (z : ℤ) (zs : List ℤ) → AllByRecursion (λ y. int_cmp z y ≡ Less) zs → list_any (int_eq z) zs ≡ false
not-among z [] h = refl
not-among z (y ∷ zs) h =
    (elim (int_eq z y) as (λ b. int_eq z y ≡ b → (b || list_any (int_eq z) zs) ≡ false) [
      | true ↦ λ e.
          let same : z ≡ y = (Decides-int_eq z y).0 e in
          let tied : int_cmp z y ≡ Equal = rw (← same) (tied_itself int_cmp_total z) in
          let less = h.0 in
          absurd (cc)
      | false ↦ λ e. not-among z zs h.1
    ]) refl

module _ (aggs : List Agg) (begin : ℕ) where
  -- what a window holds with one cell joined in
  cell-at : (s : ℕ) (q : ℤ) (w : List Cell) (c : Cell) →
      totals_at (s, q) (join_cell aggs begin w c) ≡ cond ((s == begin) && int_eq q c.0.1) (Some (joined aggs c.1 (totals_at (begin, c.0.1) w))) (totals_at (s, q) w)
  cell-at s q w c =
      lookup-insert_entry (s, q) (begin, c.0.1) (joined aggs c.1 (totals_at (begin, c.0.1) w)) w
      ∙ ap (λ (b : Bool). cond b (Some (joined aggs c.1 (totals_at (begin, c.0.1) w))) (totals_at (s, q) w)) (is_key-parts s begin q c.0.1)

  module _ (start : ℕ) (f : ℤ → List ℤ) where
    abbrev cells : List ℤ → List Cell
    cells zs = map (λ z. ((start, z), f z)) zs

    abbrev with : List Cell → List ℤ → List Cell
    with w zs = fold (join_cell aggs begin) w (cells zs)

    elsewhere : (s : ℕ) (q : ℤ) (w : List Cell) (zs : List ℤ) → (s == begin) ≡ false → totals_at (s, q) (with w zs) ≡ totals_at (s, q) w
    elsewhere s q w [] e = refl
    elsewhere s q w (z ∷ zs) e = elsewhere s q (join_cell aggs begin w ((start, z), f z)) zs e ∙ cell-at s q w ((start, z), f z) ∙ rw e refl

    here : (q : ℤ) (w : List Cell) (zs : List ℤ) → (begin == begin) ≡ true → IsStrictlySortedBy int_cmp zs →
        totals_at (begin, q) (with w zs) ≡ cond (list_any (int_eq q) zs) (Some (joined aggs (f q) (totals_at (begin, q) w))) (totals_at (begin, q) w)
    unfolding IsStrictlySortedBy
    here q w [] e s = refl
    here q w (z ∷ zs) e s =
        here q (join_cell aggs begin w ((start, z), f z)) zs e s.1
        ∙ rw (cell-at begin q w ((start, z), f z), e)
        ((elim (int_eq q z) as (λ b. int_eq q z ≡ b →
        cond (list_any (int_eq q) zs) (Some (joined aggs (f q) (cond b (Some (joined aggs (f z) (totals_at (begin, z) w))) (totals_at (begin, q) w)))) (cond b (Some (joined aggs (f z) (totals_at (begin, z) w))) (totals_at (begin, q) w))
        ≡ cond (b || list_any (int_eq q) zs) (Some (joined aggs (f q) (totals_at (begin, q) w))) (totals_at (begin, q) w)) [
          | true ↦ λ g.
              let same : q ≡ z = (Decides-int_eq q z).0 g in
              let none : list_any (int_eq q) zs ≡ false = rw same (not-among z zs s.0) in
              rw (none, same) refl
          | false ↦ λ g. refl
        ]) refl)

  module _ (group : Option ℕ) (start : ℕ) (us : List Tuple) where
    -- what a window holds with a pane joined in
    pub pane-at : (s : ℕ) (q : ℤ) (w : List Cell) →
        totals_at (s, q) (fold (join_cell aggs begin) w (window_cells group aggs start us)) ≡ cond (s == begin) (joined_over aggs (totals_at (s, q) w) (totals_over aggs (in_group group q us))) (totals_at (s, q) w)
    pane-at s q w =
        (elim (s == begin) as (λ b. (s == begin) ≡ b → totals_at (s, q) (fold (join_cell aggs begin) w (window_cells group aggs start us)) ≡ cond b (joined_over aggs (totals_at (s, q) w) (totals_over aggs (in_group group q us))) (totals_at (s, q) w)) [
          | true ↦ λ e.
              let same : s ≡ begin = eqb-true s begin e in
              rw same (within q w (rw same at e))
          | false ↦ λ e. elsewhere start (λ z. map (exact_total (in_group group z us)) aggs) s q w (distinct_values (map (group_of group) us)) e
        ]) refl
      where
        any-totals : (o : Option (List ℤ)) (vs : List Tuple) → cond (not (is_nil vs)) (Some (joined aggs (map (exact_total vs) aggs) o)) o ≡ joined_over aggs o (totals_over aggs vs)
        any-totals None [] = refl
        any-totals (Some zs) [] = refl
        any-totals None (v ∷ vs) = refl
        any-totals (Some zs) (v ∷ vs) = refl

        within : (q : ℤ) (w : List Cell) → (begin == begin) ≡ true →
            totals_at (begin, q) (fold (join_cell aggs begin) w (window_cells group aggs start us)) ≡ joined_over aggs (totals_at (begin, q) w) (totals_over aggs (in_group group q us))
        within q w e =
            here start (λ z. map (exact_total (in_group group z us)) aggs) q w (distinct_values (map (group_of group) us)) e (distinct-sorted (map (group_of group) us))
            ∙ rw (distinct-has q (map (group_of group) us), groups-have group q us) (any-totals (totals_at (begin, q) w) (in_group group q us))

  joins-sorted : (w cs : List Cell) → IsStrictlySortedBy cell_cmp (keys_of w) → IsStrictlySortedBy cell_cmp (keys_of (fold (join_cell aggs begin) w cs))
  joins-sorted w [] s = s
  joins-sorted w (c ∷ cs) s = joins-sorted (join_cell aggs begin w c) cs (insert-sorted (begin, c.0.1) (joined aggs c.1 (totals_at (begin, c.0.1) w)) w s)

-- ---- panes one after the other

module _ (step : ℕ) (group : Option ℕ) (aggs : List Agg) (ts : List Tuple) (begin : ℕ) where
  -- what a window holds of the tuples below a time
  abbrev Holds : List Cell → ℕ → Type 0
  Holds w to = (s : ℕ) (q : ℤ) → totals_at (s, q) w ≡ cond (s == begin) (totals_over aggs (in_group group q (between begin to ts))) None

  one-pane : (w : List Cell) (a : ℕ) → begin ≤ a * step → Holds w (a * step) → Holds (fold (join_cell aggs begin) w (window_cells group aggs (a * step) (between (a * step) (a * step + step) ts))) (a * step + step)
  one-pane w a le h = λ s q.
      pane-at aggs begin group (a * step) (between (a * step) (a * step + step) ts) s q w
      ∙ rw (h s q)
      (elim (s == begin) as (λ b.
      cond b (joined_over aggs (cond b (totals_over aggs (in_group group q (between begin (a * step) ts))) None) (totals_over aggs (in_group group q (between (a * step) (a * step + step) ts)))) (cond b (totals_over aggs (in_group group q (between begin (a * step) ts))) None)
      ≡ cond b (totals_over aggs (in_group group q (between begin (a * step + step) ts))) None) [
        | true ↦ sym (totals-joined group aggs begin (a * step) (a * step + step) q ts le (omega arith))
        | false ↦ refl
      ])

  panes : (w : List Cell) (a n : ℕ) → begin ≤ a * step → Holds w (a * step) → Holds (fold (join_cell aggs begin) w (cells_of step step group aggs ts a n)) ((a + n) * step)
  panes w a zero le h = let same : (a + 0) * step ≡ a * step = omega arith in subst (λ (to : ℕ). Holds w to) (sym same) h
  panes w a (suc n) le h =
      let first = fold (join_cell aggs begin) w (window_cells group aggs (a * step) (between (a * step) (a * step + step) ts)) in
      let more : a * step + step ≡ (a + 1) * step = omega arith in
      let later : begin ≤ (a + 1) * step = omega (arith, le) in
      let count : (a + 1 + n) * step ≡ (a + suc n) * step = omega arith in
      let rest : Holds (fold (join_cell aggs begin) first (cells_of step step group aggs ts (a + 1) n)) ((a + 1 + n) * step) =
      panes first (a + 1) n later (subst (λ (to : ℕ). Holds first to) more (one-pane w a le h)) in
      λ s q.
      ap (λ (cs : List Cell). totals_at (s, q) cs) (fold-append (join_cell aggs begin) w (window_cells group aggs (a * step) (between (a * step) (a * step + step) ts)) (cells_of step step group aggs ts (a + 1) n))
      ∙ rest s q
      ∙ ap (λ (to : ℕ). cond (s == begin) (totals_over aggs (in_group group q (between begin to ts))) None) count

-- the cells of a pane, with those of the next ones joined in
panes-joined : (step : ℕ) (group : Option ℕ) (aggs : List Agg) (ts : List Tuple) (a n : ℕ) → 0 < step →
    fold (join_cell aggs (a * step)) (cells_of step step group aggs ts a 1) (cells_of step step group aggs ts (a + 1) n) ≡ window_cells group aggs (a * step) (between (a * step) ((a + 1 + n) * step) ts)
panes-joined step group aggs ts a n positive =
    let us = between (a * step) ((a + 1 + n) * step) ts in
    let first = cells_of step step group aggs ts a 1 in
    let own = window_cells group aggs (a * step) (between (a * step) (a * step + step) ts) in
    let end : a * step + step ≡ (a + 1) * step = omega arith in
    let length-is : a * step + (1 + n) * step ≡ (a + 1 + n) * step = omega arith in
    let alone : IsStrictlySortedBy cell_cmp (keys_of (window_cells group aggs (a * step) (between (a * step) (a * step + (1 + n) * step) ts) ++ [])) =
    cells_of-sorted ((1 + n) * step) step group aggs ts a 1 positive in
    let sorted : IsStrictlySortedBy cell_cmp (keys_of (window_cells group aggs (a * step) us)) =
    subst (λ (cs : List Cell). IsStrictlySortedBy cell_cmp (keys_of cs)) (append-nil _ ∙ ap (λ (to : ℕ). window_cells group aggs (a * step) (between (a * step) to ts)) length-is) alone in
    let holds : Holds step group aggs ts (a * step) first ((a + 1) * step) =
    λ s q. ap (λ (cs : List Cell). totals_at (s, q) cs) (append-nil own)
    ∙ window_cells-at group aggs s (a * step) q (between (a * step) (a * step + step) ts)
    ∙ ap (λ (to : ℕ). cond (s == a * step) (totals_over aggs (in_group group q (between (a * step) to ts))) None) end in
    same_cells (fold (join_cell aggs (a * step)) first (cells_of step step group aggs ts (a + 1) n)) (window_cells group aggs (a * step) us)
    (joins-sorted aggs (a * step) first (cells_of step step group aggs ts (a + 1) n) (cells_of-sorted step step group aggs ts a 1 positive)) sorted
    (λ k. panes step group aggs ts (a * step) first (a + 1) n (times-le step a (a + 1) (omega arith)) holds k.0 k.1 ∙ sym (window_cells-at group aggs k.0 (a * step) k.1 us))

-- ---- a window's panes among the cells

module _ (time : ℕ) where
  none-before : (ys : List Cell) → AllByRecursion (λ (c : Cell). time ≤ c.0.0) ys → cells_before time ys ≡ []
  none-before [] h = refl
  none-before (y ∷ ys) h = rw (le-ltb y.0.0 time h.0) refl

  all-behind : (ys : List Cell) → AllByRecursion (λ (c : Cell). time ≤ c.0.0) ys → cells_behind time ys ≡ ys
  all-behind [] h = refl
  all-behind (y ∷ ys) h = rw (le-ltb y.0.0 time h.0) refl

  before-split : (xs ys : List Cell) → AllByRecursion (λ (c : Cell). c.0.0 < time) xs → AllByRecursion (λ (c : Cell). time ≤ c.0.0) ys → cells_before time (xs ++ ys) ≡ xs
  before-split [] ys h k = none-before ys k
  before-split (x ∷ xs) ys h k = rw (lt-ltb x.0.0 time h.0) (ap (λ cs. x ∷ cs) (before-split xs ys h.1 k))

  pub behind-split : (xs ys : List Cell) → AllByRecursion (λ (c : Cell). c.0.0 < time) xs → AllByRecursion (λ (c : Cell). time ≤ c.0.0) ys → cells_behind time (xs ++ ys) ≡ ys
  behind-split [] ys h k = all-behind ys k
  behind-split (x ∷ xs) ys h k = rw (lt-ltb x.0.0 time h.0) (behind-split xs ys h.1 k)

pub times-below : (step i j : ℕ) → 0 < step → i < j → i * step < j * step
times-below step i j positive h = grind (arith, common_steps)

module _ (step : ℕ) (group : Option ℕ) (aggs : List Agg) (ts : List Tuple) (positive : 0 < step) where
  abbrev of-panes : ℕ → ℕ → List Cell
  of-panes a n = cells_of step step group aggs ts a n

  abbrev of-pane : ℕ → List Cell
  of-pane i = window_cells group aggs (i * step) (between (i * step) (i * step + step) ts)

  behind-panes : (a m j : ℕ) → a ≤ j → j ≤ a + m → cells_behind (j * step) (of-panes a m) ≡ of-panes j (a + m - j)
  behind-panes a m j low high =
      ap (λ (cs : List Cell). cells_behind (j * step) cs) (flat_map-split of-pane a (j - a) (a + m - j) m j (omega (arith, low, high)) (omega (arith, low)))
      ∙ behind-split (j * step) (of-panes a (j - a)) (of-panes j (a + m - j))
      (cells_of-each step step group aggs ts (λ s. s < j * step) a (j - a) (λ i l h. times-below step i j positive (omega (arith, low, h))))
      (cells_of-each step step group aggs ts (λ s. j * step ≤ s) j (a + m - j) (λ i l h. times-le step j i l))

  before-panes : (j n m : ℕ) → n ≤ m → cells_before ((j + n) * step) (of-panes j m) ≡ of-panes j n
  before-panes j n m le =
      ap (λ (cs : List Cell). cells_before ((j + n) * step) cs) (flat_map-split of-pane j n (m - n) m (j + n) (omega (arith, le)) refl)
      ∙ before-split ((j + n) * step) (of-panes j n) (of-panes (j + n) (m - n))
      (cells_of-each step step group aggs ts (λ s. s < (j + n) * step) j n (λ i l h. times-below step i (j + n) positive h))
      (cells_of-each step step group aggs ts (λ s. (j + n) * step ≤ s) (j + n) (m - n) (λ i l h. times-le step (j + n) i l))

  -- the window of number j out of the cells of panes from number a on
  pub window-joined : (a m j n : ℕ) → a ≤ j → j + 1 + n ≤ a + m →
      joined_cells ((1 + n) * step) step aggs (j * step) (of-panes a m) ≡ window_cells group aggs (j * step) (between (j * step) (j * step + (1 + n) * step) ts)
  window-joined a m j n low high =
      let second : j * step + step ≡ (j + 1) * step = omega arith in
      let end : j * step + (1 + n) * step ≡ (j + 1 + n) * step = omega arith in
      let first : cells_before (j * step + step) (cells_behind (j * step) (of-panes a m)) ≡ of-panes j 1 =
      ap (λ (cs : List Cell). cells_before (j * step + step) cs) (behind-panes a m j low (omega (arith, high)))
      ∙ ap (λ (time : ℕ). cells_before time (of-panes j (a + m - j))) second
      ∙ before-panes j 1 (a + m - j) (omega (arith, high)) in
      let others : cells_before (j * step + (1 + n) * step) (cells_behind (j * step + step) (of-panes a m)) ≡ of-panes (j + 1) n =
      ap (λ (time : ℕ). cells_before (j * step + (1 + n) * step) (cells_behind time (of-panes a m))) second
      ∙ ap (λ (cs : List Cell). cells_before (j * step + (1 + n) * step) cs) (behind-panes a m (j + 1) (omega (arith, low)) (omega (arith, high)))
      ∙ ap (λ (time : ℕ). cells_before time (of-panes (j + 1) (a + m - (j + 1)))) end
      ∙ before-panes (j + 1) n (a + m - (j + 1)) (omega (arith, high)) in
      ap (λ (cs : List Cell). fold (join_cell aggs (j * step)) cs (cells_before (j * step + (1 + n) * step) (cells_behind (j * step + step) (of-panes a m)))) first
      ∙ ap (λ (cs : List Cell). fold (join_cell aggs (j * step)) (of-panes j 1) cs) others
      ∙ panes-joined step group aggs ts j n positive
      ∙ ap (λ (to : ℕ). window_cells group aggs (j * step) (between (j * step) to ts)) (sym end)
