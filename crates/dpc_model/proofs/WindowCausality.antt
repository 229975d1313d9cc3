-- The rows of windows, cut at a time, are those of the windows that end by then.
use Rattle.std.proofs.Common.{◌≡◌, ℕ, zero, suc, ◌+◌, ◌-◌, ◌*◌, ◌/◌, ◌<◌, ◌≤◌, Bool, true, false, cond, ◌&&◌, List, [], ◌∷◌, ◌++◌, map, refl, sym, ◌∙◌, ap, arith, nat_lt, nat_le, Option, Some, None, zero-add}
use Rattle.std.proofs.lemmas.Grind.{common_steps}
use Rattle.std.proofs.lemmas.Bool.{ltb-true, ltb-false, lt-ltb, le-ltb}
use Rattle.std.proofs.Math.Nat.{le-div_iff_mul-le}
use Rattle.std.specs.List.{filter, flat_map}
use Rattle.dpc_lists.specs.Lists.{range_with_len, is_nil}
use Rattle.dpc_model.specs.Streams.{cut, is_below}
use Rattle.dpc_model.specs.Operators.{aggregated, window_rows, window_count, group_rows, between, tuple_of, total_of, distinct_values}
use Rattle.dpc_model.specs.Values.{column}
use Rattle.dpc_model.specs.declared.tuples.Tuple.{Tuple}
use Rattle.dpc_model.specs.declared.operators.Agg.{Agg}
use Rattle.dpc_model.proofs.JoinCausality.{filter-flat_map, filter-map_none}

-- ---- the windows that end by a time

-- window j ends by b where it is among the first windows
pub window_before : (size step b j : ℕ) → 0 < step → j < window_count size step b → j * step + size ≤ b
window_before size step b j pos h =
    (elim (nat_lt b size) as (λ c. nat_lt b size ≡ c → j < cond c 0 ((b - size) / step + 1) → j * step + size ≤ b) [
      | true ↦ λ e k. absurd (omega (arith, k))
      | false ↦ λ e k.
          let room : size ≤ b = grind (arith, common_steps) in
          let few : j ≤ (b - size) / step = omega (arith, k) in
          omega (arith, (le-div_iff_mul-le {k = step} {x = j} {y = b - size} pos).0 few)
    ]) refl h

pub window_after : (size step b j : ℕ) → 0 < step → window_count size step b ≤ j → b < j * step + size
window_after size step b j pos h =
    (elim (nat_lt b size) as (λ c. nat_lt b size ≡ c → cond c 0 ((b - size) / step + 1) ≤ j → b < j * step + size) [
      | true ↦ λ e k. let small = ltb-true b size e in omega (arith, small)
      | false ↦ λ e k.
          let room : size ≤ b = grind (arith, common_steps) in
          let many : ¬ (j ≤ (b - size) / step) = λ m. absurd (omega (arith, k, m)) in
          let far : ¬ (j * step ≤ b - size) = λ m. many ((le-div_iff_mul-le {k = step} {x = j} {y = b - size} pos).1 m) in
          omega (arith, far)
    ]) refl h

pub window_count-le : (size step b b' : ℕ) → 0 < step → b ≤ b' → window_count size step b ≤ window_count size step b'
window_count-le size step b b' pos h =
    (elim (nat_lt (window_count size step b') (window_count size step b)) as (λ c. nat_lt (window_count size step b') (window_count size step b) ≡ c → window_count size step b ≤ window_count size step b') [
      | true ↦ λ e.
          let ends = window_before size step b (window_count size step b') pos (ltb-true (window_count size step b') (window_count size step b) e) in
          let over = window_after size step b' (window_count size step b') pos (omega arith) in
          absurd (omega (arith, ends, over))
      | false ↦ λ e. ltb-false (window_count size step b') (window_count size step b) e
    ]) refl

-- ---- the rows of one window

filter-map_all : {X Y : Type 0} (p : Y → Bool) (f : X → Y) → ((x : X) → p (f x) ≡ true) → (xs : List X) → filter p (map f xs) ≡ map f xs
filter-map_all p f h [] = refl
filter-map_all p f h (x ∷ xs) = rw (h x) (ap (λ ys. f x ∷ ys) (filter-map_all p f h xs))

-- every row has the window's time
rows-below : (group : Option ℕ) (aggs : List Agg) (time b : ℕ) (ts : List Tuple) → nat_lt time b ≡ true → cut (group_rows group aggs time ts) b ≡ group_rows group aggs time ts
rows-below None aggs time b ts e =
    elim (is_nil ts) as (λ c. cut (cond c [] (tuple_of time (map (total_of ts) aggs) ∷ [])) b ≡ cond c [] (tuple_of time (map (total_of ts) aggs) ∷ [])) [
      | true ↦ refl
      | false ↦ rw e refl
    ]
rows-below (Some c) aggs time b ts e = filter-map_all (is_below b) _ (λ z. e) (distinct_values (map (λ t. column t c) ts))

rows-above : (group : Option ℕ) (aggs : List Agg) (time b : ℕ) (ts : List Tuple) → nat_lt time b ≡ false → cut (group_rows group aggs time ts) b ≡ []
rows-above None aggs time b ts e =
    elim (is_nil ts) as (λ c. cut (cond c [] (tuple_of time (map (total_of ts) aggs) ∷ [])) b ≡ []) [
      | true ↦ refl
      | false ↦ rw e refl
    ]
rows-above (Some c) aggs time b ts e = filter-map_none (is_below b) _ (λ z. e) (distinct_values (map (λ t. column t c) ts))

-- ---- its tuples

-- a test that another one implies makes that one needless
pub filter-implied : {X : Type 0} (p q : X → Bool) → ((x : X) → p x ≡ true → q x ≡ true) → (xs : List X) → filter p (filter q xs) ≡ filter p xs
filter-implied p q h [] = refl
filter-implied p q h (x ∷ xs) = grind (arith, common_steps, h x, filter-implied p q h xs)

below_too : (from to b time : ℕ) → to ≤ b → (nat_le from time && nat_lt time to) ≡ true → nat_lt time b ≡ true
below_too from to b time h e = grind (arith, common_steps)

between-cut : (from to b : ℕ) (ts : List Tuple) → to ≤ b → between from to (cut ts b) ≡ between from to ts
between-cut from to b ts h =
    filter-implied (λ (t : Tuple). nat_le from t.stime && is_below to t) (is_below b) (λ (t : Tuple) e. below_too from to b t.stime h e) ts

-- ---- all windows

module _ (size step : ℕ) (group : Option ℕ) (aggs : List Agg) (ts : List Tuple) (b : ℕ) (some : 0 < size) (pos : 0 < step) where
  abbrev rows_of : List Tuple → ℕ → List Tuple
  rows_of us j = window_rows size group aggs us (j * step)

  kept_window : (j : ℕ) → j < window_count size step b → cut (rows_of ts j) b ≡ rows_of (cut ts b) j
  kept_window j h =
      let ends = window_before size step b j pos h in
      rows-below group aggs (j * step + size - 1) b (between (j * step) (j * step + size) ts) (lt-ltb (j * step + size - 1) b (omega (arith, ends)))
      ∙ ap (λ (us : List Tuple). group_rows group aggs (j * step + size - 1) us) (sym (between-cut (j * step) (j * step + size) b ts ends))

  lost_window : (j : ℕ) → window_count size step b ≤ j → cut (rows_of ts j) b ≡ []
  lost_window j h =
      let over = window_after size step b j pos h in
      rows-above group aggs (j * step + size - 1) b (between (j * step) (j * step + size) ts) (le-ltb (j * step + size - 1) b (omega (arith, over)))

  -- windows from a on, of which the first n end by b
  lost_windows : (a n : ℕ) → window_count size step b ≤ a → flat_map (λ j. cut (rows_of ts j) b) (range_with_len a n) ≡ []
  lost_windows a zero h = refl
  lost_windows a (suc n) h = rw (lost_window a h) (lost_windows (a + 1) n (omega (arith, h)))

  kept_windows : (a n m : ℕ) → n ≤ m → a + n ≡ window_count size step b →
      flat_map (λ j. cut (rows_of ts j) b) (range_with_len a m) ≡ flat_map (rows_of (cut ts b)) (range_with_len a n)
  kept_windows a zero m h e = lost_windows a m (omega (arith, e))
  kept_windows a (suc n) zero h e = absurd (omega (arith, h))
  kept_windows a (suc n) (suc m) h e =
      rw (kept_window a (omega (arith, e))) (ap (λ us. rows_of (cut ts b) a ++ us) (kept_windows (a + 1) n m (omega (arith, h)) (omega (arith, e))))

  pub cut-aggregated : (b' : ℕ) → b ≤ b' → cut (aggregated size step group aggs ts b') b ≡ aggregated size step group aggs (cut ts b) b
  cut-aggregated b' h =
      filter-flat_map (is_below b) (rows_of ts) (range_with_len 0 (window_count size step b'))
      ∙ kept_windows 0 (window_count size step b) (window_count size step b') (window_count-le size step b b' pos h) (zero-add (window_count size step b))
