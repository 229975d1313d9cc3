-- The cells that are held over some tuples, from one tuple to the next.
use Rattle.std.proofs.Common.{◌≡◌, ℕ, ◌+◌, ◌-◌, ◌*◌, ◌/◌, ◌<◌, ◌≤◌, ◌==◌, ◌&&◌, Bool, true, false, cond, List, [], ◌∷◌, ◌++◌, refl, sym, ◌∙◌, ap, arith, ℤ, int_eq, Option, None, nat_lt, nat_le}
use Rattle.std.proofs.lemmas.Bool.{ltb-true, ltb-false, leb-true, le-leb, lt-ltb, and_parts, and_from, false_from_ne_true, eqb-true}
use Rattle.std.proofs.lemmas.List.{append-nil, append_assoc}
use Rattle.std.proofs.Math.Nat.{le-div_iff_mul-le}
use Rattle.std.specs.List.{AllByRecursion}
use Rattle.std.specs.List.Sorted.{IsStrictlySortedBy}
use Rattle.std.specs.Map.{keys_of}
use Rattle.dpc_model.specs.Operators.{window_count}
use Rattle.dpc_model.specs.declared.tuples.Tuple.{Tuple}
use Rattle.dpc_model.specs.declared.operators.Agg.{Agg}
use Rattle.dpc_model.proofs.WindowCausality.{window_before}
use Rattle.ops_window.specs.Windows.{Cell, group_of, begun_count}
use Rattle.ops_window.specs.Feeding.{cell_cmp, totals_at, take_tuple, take_tuples}
use Rattle.ops_window.proofs.WindowCells.{totals_over, begins_one, seen, cells_of, cells_of-at}
use Rattle.ops_window.proofs.CellOrder.{cells_of-sorted, same_cells}
use Rattle.ops_window.proofs.Feeds.{begins_one-number, one_begins, within-window, count-begun, belongs, totals-more, windows-sorted, windows-at}

-- ---- counts of windows

-- a window begins below a time where it is among those begun
pub begun-below : (step b j : ℕ) → 0 < step → begun_count step b ≤ j → b ≤ j * step
begun-below step b j positive h =
    (elim (b == 0) as (λ x. (b == 0) ≡ x → cond x 0 ((b - 1) / step + 1) ≤ j → b ≤ j * step) [
      | true ↦ λ e k. let none = eqb-true b 0 e in omega (arith, none)
      | false ↦ λ e k.
          let few : ¬ (j ≤ (b - 1) / step) = λ m. absurd (omega (arith, k, m)) in
          let far : ¬ (j * step ≤ b - 1) = λ m. few ((le-div_iff_mul-le {k = step} {x = j} {y = b - 1} positive).1 m) in
          omega (arith, far)
    ]) refl h

pub begun-of : (step b time : ℕ) → 0 < step → time < b → time / step + 1 ≤ begun_count step b
begun-of step b time positive h =
    (elim (b == 0) as (λ x. (b == 0) ≡ x → time / step + 1 ≤ cond x 0 ((b - 1) / step + 1)) [
      | true ↦ λ e. let none = eqb-true b 0 e in absurd (omega (arith, none))
      | false ↦ λ e.
          let low : time / step * step ≤ time = (le-div_iff_mul-le {k = step} {x = time / step} {y = time} positive).0 (omega arith) in
          let few : time / step ≤ (b - 1) / step = (le-div_iff_mul-le {k = step} {x = time / step} {y = b - 1} positive).1 (omega (arith, low)) in
          omega (arith, few)
    ]) refl

-- a window that ended has begun
pub count-le-begun : (size step b : ℕ) → 0 < size → 0 < step → window_count size step b ≤ begun_count step b
count-le-begun size step b some positive = by (nat_lt (begun_count step b) (window_count size step b)) refl
  where
    by : (x : Bool) → nat_lt (begun_count step b) (window_count size step b) ≡ x → window_count size step b ≤ begun_count step b
    by false e = ltb-false (begun_count step b) (window_count size step b) e
    by true e =
        let ends = window_before size step b (begun_count step b) positive (ltb-true (begun_count step b) (window_count size step b) e) in
        let far = begun-below step b (begun_count step b) positive (omega arith) in
        absurd (omega (arith, ends, far))

module _ (size step : ℕ) (group : Option ℕ) (aggs : List Agg) (n m : ℕ) where
  -- what the cells of m windows from number n on hold over some tuples
  pub record Held (cells : List Cell) (ts : List Tuple) : Type 0 where
    pub sorted : IsStrictlySortedBy cell_cmp (keys_of cells)
    pub at : (s : ℕ) (q : ℤ) → totals_at (s, q) cells ≡ cond (begins_one step n m s) (totals_over aggs (seen size group ts s q)) None

  module _ (positive : 0 < step) where
    pub held-first : (ts : List Tuple) → Held (cells_of size step group aggs ts n m) ts
    held-first ts = record {
      sorted = cells_of-sorted size step group aggs ts n m positive;
      at = λ s q. cells_of-at size step group aggs ts s q n m;
    }

    pub held-all : (cells : List Cell) (ts : List Tuple) → Held cells ts → cells ≡ cells_of size step group aggs ts n m
    held-all cells ts h =
        same_cells cells (cells_of size step group aggs ts n m) h.sorted (cells_of-sorted size step group aggs ts n m positive)
        (λ q. h.at q.0 q.1 ∙ sym (cells_of-at size step group aggs ts q.0 q.1 n m))

    module _ (cells : List Cell) (ts : List Tuple) (t : Tuple) (held : Held cells ts) (low : n ≤ window_count size step t.stime) (high : t.stime / step + 1 ≤ n + m) where
      abbrev first : ℕ
      first = window_count size step t.stime

      abbrev count : ℕ
      count = t.stime / step + 1 - first

      up_to : first + count ≡ t.stime / step + 1
      up_to = let le = count-begun size step t.stime positive in omega (arith, le)

      windows : (j : ℕ) → begins_one step first count (j * step) ≡ (nat_le (j * step) t.stime && nat_lt t.stime (j * step + size))
      windows j = begins_one-number step first count j positive ∙ ap (λ (k : ℕ). nat_le first j && nat_lt j k) up_to ∙ within-window size step t.stime j positive

      inside : (s : ℕ) (q : ℤ) → begins_one step n m s ≡ true → (begins_one step first count s && int_eq (group_of group t) q) ≡ belongs size step group aggs s q t
      inside s q e =
          let number = one_begins step n m s e in
          ap (λ (b : Bool). b && int_eq (group_of group t) q)
          (ap (λ (k : ℕ). begins_one step first count k) number.1 ∙ windows number.0 ∙ ap (λ (k : ℕ). nat_le k t.stime && nat_lt t.stime (k + size)) (sym number.1))

      outside : (s : ℕ) → begins_one step n m s ≡ false → begins_one step first count s ≡ false
      outside s e = false_from_ne_true (begins_one step first count s) (λ f.
          let number = one_begins step first count s f in
          let is_one : begins_one step first count (number.0 * step) ≡ true = ap (λ (k : ℕ). begins_one step first count k) (sym number.1) ∙ f in
          let parts = and_parts (nat_le first number.0) (nat_lt number.0 (first + count)) (sym (begins_one-number step first count number.0 positive) ∙ is_one) in
          let from = leb-true first number.0 parts.0 in
          let below = ltb-true number.0 (first + count) parts.1 in
          let end = up_to in
          let in' : begins_one step n m (number.0 * step) ≡ true =
          begins_one-number step n m number.0 positive
          ∙ and_from (nat_le n number.0) (nat_lt number.0 (n + m)) (le-leb n number.0 (omega (arith, from))) (lt-ltb number.0 (n + m) (omega (arith, below, end))) in
          let here : begins_one step n m s ≡ true = ap (λ (k : ℕ). begins_one step n m k) number.1 ∙ in' in
          absurd (cc))

      next-at : (s : ℕ) (q : ℤ) (b : Bool) → begins_one step n m s ≡ b →
          totals_at (s, q) (take_tuple size step group aggs cells t) ≡ cond b (totals_over aggs (seen size group (ts ++ t ∷ []) s q)) None
      next-at s q true e =
          let old : totals_at (s, q) cells ≡ totals_over aggs (seen size group ts s q) = held.at s q ∙ ap (λ (b : Bool). cond b (totals_over aggs (seen size group ts s q)) None) e in
          windows-at size step group aggs positive t s q cells first count
          ∙ rw (inside s q e, old) (totals-more size step group aggs s q ts t)
      next-at s q false e =
          let old : totals_at (s, q) cells ≡ None = held.at s q ∙ ap (λ (b : Bool). cond b (totals_over aggs (seen size group ts s q)) None) e in
          windows-at size step group aggs positive t s q cells first count
          ∙ rw (outside s e) old

      held-next : Held (take_tuple size step group aggs cells t) (ts ++ t ∷ [])
      held-next = record {
        sorted = windows-sorted size step group aggs positive t cells first count held.sorted;
        at = λ s q. next-at s q (begins_one step n m s) refl;
      }

    pub held-more : (cells : List Cell) (ts us : List Tuple) → Held cells ts →
        AllByRecursion (λ (t : Tuple). (n ≤ window_count size step t.stime) × (t.stime / step + 1 ≤ n + m)) us →
        Held (take_tuples size step group aggs cells us) (ts ++ us)
    held-more cells ts [] held h = rw (append-nil ts) held
    held-more cells ts (u ∷ us) held h =
        let more = held-more (take_tuple size step group aggs cells u) (ts ++ u ∷ []) us (held-next cells ts u held h.0.0 h.0.1) h.1 in
        rw (← append_assoc ts (u ∷ []) us) more
