-- The walk over windows that are made of panes, from one that holds a cell to the next.
use Rattle.std.proofs.Common.{◌≡◌, ℕ, zero, suc, ◌+◌, ◌-◌, ◌*◌, ◌/◌, ◌%◌, ◌<◌, ◌≤◌, max, Bool, true, false, cond, List, [], ◌∷◌, ◌++◌, map, refl, sym, ◌∙◌, ap, subst, arith, ℤ, Option, Some, None, nat_lt, nat_le}
use Rattle.std.proofs.lemmas.Grind.{common_steps}
use Rattle.std.proofs.lemmas.Bool.{ltb-true, ltb-false, lt-ltb, le-ltb}
use Rattle.std.proofs.Math.Nat.{le-div_iff_mul-le}
use Rattle.std.specs.List.{fold, flat_map}
use Rattle.dpc_lists.specs.Lists.{range_with_len}
use Rattle.dpc_model.specs.Operators.{window_count}
use Rattle.dpc_model.proofs.WindowCausality.{window_before}
use Rattle.dpc_model.specs.declared.tuples.Tuple.{Tuple}
use Rattle.dpc_model.specs.declared.operators.Agg.{Agg}
use Rattle.ops_window.specs.Windows.{Cell}
use Rattle.ops_window.specs.Feeding.{cell_row, join_cell, ended_cells, cells_before, cells_behind, first_key, next_window, joined_rows, pane_rows}
use Rattle.ops_window.proofs.Ends.{flat_map-none}
use Rattle.ops_window.proofs.Reach.{times-le, whole-steps, some-steps}

-- ---- the first cell

behind-first : (time : ℕ) (k : ℕ × ℤ) (cells : List Cell) → first_key (cells_behind time cells) ≡ Some k → time ≤ k.0
behind-first time k [] e = absurd (cc)
behind-first time k (c ∷ cells) e =
    (elim (nat_lt c.0.0 time) as (λ b. nat_lt c.0.0 time ≡ b → first_key (cond b (cells_behind time cells) (c ∷ cells)) ≡ Some k → time ≤ k.0) [
      | true ↦ λ f g. behind-first time k cells g
      | false ↦ λ f g. let same : c.0 ≡ k = cc in rw (← same) (ltb-false c.0.0 time f)
    ]) refl e

pub behind-more : (time later : ℕ) (cells : List Cell) → time ≤ later → cells_behind later (cells_behind time cells) ≡ cells_behind later cells
behind-more time later [] h = refl
behind-more time later (c ∷ cells) h =
    (elim (nat_lt c.0.0 time) as (λ b. nat_lt c.0.0 time ≡ b → cells_behind later (cond b (cells_behind time cells) (c ∷ cells)) ≡ cells_behind later (c ∷ cells)) [
      | true ↦ λ e.
          let early = ltb-true c.0.0 time e in
          let too : nat_lt c.0.0 later ≡ true = lt-ltb c.0.0 later (omega (arith, h, early)) in
          rw too (behind-more time later cells h)
      | false ↦ λ e. refl
    ]) refl

-- ---- one cell after the other

module _ (aggs : List Agg) (begin end : ℕ) (w : List Cell) where
  pub joins-on : (w' : List Cell) (c : Cell) (cells cells' : List Cell) → cells ≡ c ∷ cells' → c.0.0 < end → w' ≡ join_cell aggs begin w c →
      fold (join_cell aggs begin) w' (cells_before end cells') ≡ fold (join_cell aggs begin) w (cells_before end cells)
  joins-on w' c cells cells' e h joins = let early : nat_lt c.0.0 end ≡ true = lt-ltb c.0.0 end h in rw (e, early, joins) refl

  pub joins-here : (c : Cell) (cells cells' : List Cell) → cells ≡ c ∷ cells' → end ≤ c.0.0 → w ≡ fold (join_cell aggs begin) w (cells_before end cells)
  joins-here c cells cells' e h = let late : nat_lt c.0.0 end ≡ false = le-ltb c.0.0 end h in rw (e, late) refl

  pub joins-end : (cells : List Cell) → cells ≡ [] → w ≡ fold (join_cell aggs begin) w (cells_before end cells)
  joins-end cells e = rw e refl

-- ---- windows

-- numbers that give nothing are passed over
skip : {X : Type 0} (f : ℕ → List X) (n a b c : ℕ) → a + n ≡ b → ((j : ℕ) → a ≤ j → j < b → f j ≡ []) → flat_map f (range_with_len a (c - a)) ≡ flat_map f (range_with_len b (c - b))
skip f zero a b c e h = let same : b ≡ a = omega arith in rw same refl
skip f (suc n) a b c e h = by (c - a) refl (skip f n (a + 1) b c (omega (arith, e)) (λ j low high. h j (omega (arith, low)) high))
  where
    by : (m : ℕ) → c - a ≡ m → flat_map f (range_with_len (a + 1) (c - (a + 1))) ≡ flat_map f (range_with_len b (c - b)) → flat_map f (range_with_len a m) ≡ flat_map f (range_with_len b (c - b))
    by zero g rest = let none : c - b ≡ 0 = omega arith in rw none refl
    by (suc m) g rest =
        let count : c - (a + 1) ≡ m = omega arith in
        rw (h a (omega arith) (omega arith)) (ap (λ (k : ℕ). flat_map f (range_with_len (a + 1) k)) (sym count) ∙ rest)

-- the next window ends in time
pub next-ends : (size step number behind b : ℕ) (rest : List Cell) (next : ℕ) → 0 < step → behind ≡ window_count size step b → Some next ≡ next_window size step number behind rest → next * step + size ≤ b
next-ends size step number behind b [] next positive e f = absurd (cc)
next-ends size step number behind b (c ∷ rest) next positive e f =
    let found = max number (c.0.0 / step - (size / step - 1)) in
    (elim (nat_lt found behind) as (λ x. nat_lt found behind ≡ x → Some next ≡ cond {A = Option ℕ} x (Some found) None → next * step + size ≤ b) [
      | true ↦ λ g h.
          let same : next ≡ found = cc in
          let below = ltb-true found behind g in
          window_before size step b next positive (omega (arith, e, same, below))
      | false ↦ λ g h. absurd (cc)
    ]) refl f

module _ (size step : ℕ) (group : Option ℕ) (aggs : List Agg) (b : ℕ) (cells : List Cell) (number : ℕ) where
  abbrev rows : ℕ → List Tuple
  rows j = joined_rows size step group aggs b cells j

  abbrev behind : ℕ
  behind = window_count size step b

  -- a window's rows, by the cells from its begin on and those from its second pane on
  abbrev pub rows-by : ℕ → List Cell → List Cell → List Tuple
  rows-by j first later = map (cell_row size group aggs) (ended_cells size b (fold (join_cell aggs (j * step)) (cells_before (j * step + step) first) (cells_before (j * step + size) later)))

  module _ (rest : List Cell) (is-rest : rest ≡ cells_behind (number * step) cells) where
    from-time : (time : ℕ) → number * step ≤ time → cells_behind time cells ≡ cells_behind time rest
    from-time time late = sym (ap (λ (cs : List Cell). cells_behind time cs) is-rest ∙ behind-more (number * step) time cells late)

    from-window : (j : ℕ) (first later : List Cell) → number ≤ j → cells_behind (j * step) rest ≡ first → cells_behind (j * step + step) rest ≡ later → rows j ≡ rows-by j first later
    from-window j first later low e f =
        let begin : number * step ≤ j * step = times-le step number j low in
        ap (λ (cs : List Cell). rows-by j cs (cells_behind (j * step + step) cells)) (from-time (j * step) begin ∙ e)
        ∙ ap (λ (cs : List Cell). rows-by j first cs) (from-time (j * step + step) (omega (arith, begin)) ∙ f)

  -- where no cell is left, no window has a row
  walk-none : [] ≡ cells_behind (number * step) cells → pane_rows size step group aggs number b cells ≡ []
  walk-none e = flat_map-none rows number (behind - number) (λ j low. from-window [] e j [] [] low refl refl)

  module _ (some : 0 < size) (positive : 0 < step) (whole : size % step ≡ 0) (c : Cell) (rest : List Cell) (is-rest : c ∷ rest ≡ cells_behind (number * step) cells)
      (next : ℕ) (is-next : next ≡ max number (c.0.0 / step - (size / step - 1))) where
    pane-begin : c.0.0 / step * step ≤ c.0.0
    pane-begin = (le-div_iff_mul-le {k = step} {x = c.0.0 / step} {y = c.0.0} positive).0 (omega arith)

    late-first : number * step ≤ c.0.0
    late-first = behind-first (number * step) c.0 cells (ap first_key (sym is-rest))

    -- up to the first cell all are left
    all-left : (time : ℕ) → time ≤ c.0.0 → cells_behind time (c ∷ rest) ≡ c ∷ rest
    all-left time late = rw (le-ltb c.0.0 time late) refl

    none-before : (time : ℕ) → time ≤ c.0.0 → cells_before time (c ∷ rest) ≡ []
    none-before time late = rw (le-ltb c.0.0 time late) refl

    -- a window that ends at or below the first cell's begin has no row
    passed : (j : ℕ) → number ≤ j → j < next → rows j ≡ []
    passed j low high =
        let n = size / step in
        let many = some-steps size step some whole in
        let few : j + n ≤ c.0.0 / step = omega (arith, is-next, low, high, many) in
        let end : (j + n) * step ≤ c.0.0 / step * step = times-le step (j + n) (c.0.0 / step) few in
        let second : (j + 1) * step ≤ (j + n) * step = times-le step (j + 1) (j + n) (omega (arith, many)) in
        let whole-is : j * step + size ≡ (j + n) * step = (let e = whole-steps size step whole in omega (arith, e)) in
        let bound = pane-begin in
        let one : j * step + step ≤ c.0.0 = omega (arith, second, end, bound) in
        from-window (c ∷ rest) is-rest j (c ∷ rest) (c ∷ rest) low (all-left (j * step) (omega (arith, one))) (all-left (j * step + step) one)
        ∙ ap (λ (cs : List Cell). map (cell_row size group aggs) (ended_cells size b (fold (join_cell aggs (j * step)) cs (cells_before (j * step + size) (c ∷ rest))))) (none-before (j * step + step) one)
        ∙ ap (λ (cs : List Cell). map (cell_row size group aggs) (ended_cells size b (fold (join_cell aggs (j * step)) [] cs))) (none-before (j * step + size) (omega (arith, whole-is, end, bound)))

    low-next : number ≤ next
    low-next = omega (arith, is-next)

    begins : next * step ≤ c.0.0
    begins = by (nat_le number (c.0.0 / step - (size / step - 1))) refl
      where
        by : (x : Bool) → nat_le number (c.0.0 / step - (size / step - 1)) ≡ x → next * step ≤ c.0.0
        by true e =
            let few : next ≤ c.0.0 / step = grind (arith, common_steps) in
            let under = times-le step next (c.0.0 / step) few in
            let bound = pane-begin in
            omega (arith, under, bound)
        by false e =
            let same : next ≡ number = grind (arith, common_steps) in
            subst (λ (n : ℕ). n * step ≤ c.0.0) (sym same) late-first

    skipped : pane_rows size step group aggs number b cells ≡ pane_rows size step group aggs next b cells
    skipped = skip rows (next - number) number next behind (let low = low-next in omega (arith, low)) passed

    -- where the next window is open, no row is left
    stops : behind ≤ next → pane_rows size step group aggs number b cells ≡ []
    stops h = let none : behind - next ≡ 0 = omega arith in skipped ∙ rw none refl

    -- else its rows come next
    goes : next < behind → pane_rows size step group aggs number b cells ≡ rows-by next (c ∷ rest) (cells_behind (next * step + step) (c ∷ rest)) ++ pane_rows size step group aggs (next + 1) b cells
    goes h =
        let count : behind - next ≡ suc (behind - (next + 1)) = omega arith in
        skipped
        ∙ ap (λ (n : ℕ). flat_map rows (range_with_len next n)) count
        ∙ ap (λ (ts : List Tuple). ts ++ pane_rows size step group aggs (next + 1) b cells)
        (from-window (c ∷ rest) is-rest next (c ∷ rest) (cells_behind (next * step + step) (c ∷ rest)) low-next (all-left (next * step) begins) refl)

    leaves : cells_behind (next * step + step) (c ∷ rest) ≡ cells_behind ((next + 1) * step) cells
    leaves =
        let later : next * step + step ≡ (next + 1) * step = omega arith in
        let start = times-le step number next low-next in
        sym (from-time (c ∷ rest) is-rest (next * step + step) (omega (arith, start)))
        ∙ ap (λ (time : ℕ). cells_behind time cells) later

  -- where there is no next window, no row is left
  pub walk-end : 0 < size → 0 < step → size % step ≡ 0 → (rest : List Cell) → rest ≡ cells_behind (number * step) cells →
      next_window size step number behind rest ≡ None → pane_rows size step group aggs number b cells ≡ []
  walk-end some positive whole [] is-rest e = walk-none is-rest
  walk-end some positive whole (c ∷ rest) is-rest e =
      let next = max number (c.0.0 / step - (size / step - 1)) in
      (elim (nat_lt next behind) as (λ x. nat_lt next behind ≡ x → cond {A = Option ℕ} x (Some next) None ≡ None → pane_rows size step group aggs number b cells ≡ []) [
        | true ↦ λ f g. absurd (cc)
        | false ↦ λ f g. stops some positive whole c rest is-rest next refl (ltb-false next behind f)
      ]) refl e

  -- what the walk does at the next window
  pub record Goes (rest : List Cell) (next : ℕ) : Type 0 where
    pub low : number ≤ next
    pub high : next < behind
    pub rows-are : pane_rows size step group aggs number b cells ≡ rows-by next rest (cells_behind (next * step + step) rest) ++ pane_rows size step group aggs (next + 1) b cells
    pub left : cells_behind (next * step + step) rest ≡ cells_behind ((next + 1) * step) cells

  pub walk-on : 0 < size → 0 < step → size % step ≡ 0 → (rest : List Cell) → rest ≡ cells_behind (number * step) cells →
      (next : ℕ) → next_window size step number behind rest ≡ Some next → Goes rest next
  walk-on some positive whole [] is-rest next e = absurd (cc)
  walk-on some positive whole (c ∷ rest) is-rest next e =
      let found = max number (c.0.0 / step - (size / step - 1)) in
      (elim (nat_lt found behind) as (λ x. nat_lt found behind ≡ x → cond {A = Option ℕ} x (Some found) None ≡ Some next → Goes (c ∷ rest) next) [
        | true ↦ λ f g.
            let same : next ≡ found = cc in
            let high : next < behind = subst (λ (n : ℕ). n < behind) (sym same) (ltb-true found behind f) in
            record {
              low = low-next some positive whole c rest is-rest next same;
              high = high;
              rows-are = goes some positive whole c rest is-rest next same high;
              left = leaves some positive whole c rest is-rest next same;
            }
        | false ↦ λ f g. absurd (cc)
      ]) refl e
