-- Taking tuples in: from the cells over some tuples come the cells over those and the new ones.
use Rattle.std.proofs.Common.{◌≡◌, ℕ, zero, suc, ◌+◌, ◌*◌, ◌/◌, ◌<◌, ◌≤◌, ◌==◌, ◌&&◌, ◌||◌, Bool, true, false, cond, List, [], ◌∷◌, ◌++◌, refl, sym, ◌∙◌, ap, arith, ℤ, int_eq, Option, Some, nat_lt, nat_le}
use Rattle.std.proofs.lemmas.Grind.{common_steps}
use Rattle.std.proofs.lemmas.Bool.{eqb-true, eqb-false, eq-eqb, ne_eqb, ltb-true, leb-true, leb-false, ltb-false, le-leb, lt-ltb, le-ltb}
use Rattle.std.proofs.lemmas.Bool.Decides.{Decides-int_eq}
use Rattle.std.proofs.lemmas.Cmp.{int_eq_equiv}
use Rattle.std.proofs.lemmas.List.{append-nil}
use Rattle.std.proofs.lemmas.List.Elements.{filter-append}
use Rattle.std.proofs.Math.Nat.{le-div_iff_mul-le, mul-div_cancel}
use Rattle.std.specs.List.{fold}
use Rattle.std.specs.List.Sorted.{IsStrictlySortedBy}
use Rattle.std.specs.Map.{keys_of}
use Rattle.dpc_lists.specs.Lists.{range_with_len}
use Rattle.dpc_model.specs.Streams.{is_below}
use Rattle.dpc_model.specs.Operators.{between, window_count}
use Rattle.dpc_model.specs.declared.tuples.Tuple.{Tuple}
use Rattle.dpc_model.specs.declared.operators.Agg.{Agg}
use Rattle.dpc_model.proofs.WindowCausality.{window_before, window_after}
use Rattle.ops_window.specs.Windows.{Cell, group_of, in_group}
use Rattle.ops_window.specs.Feeding.{cell_cmp, totals_at, take_cell, grown}
use Rattle.ops_window.proofs.ExactTotals.{firsts_exact, nexts_exact}
use Rattle.ops_window.proofs.Lookups.{is_key-parts, totals_at-take_cell, take_cell-sorted}
use Rattle.ops_window.proofs.WindowCells.{totals_over, begins_one, seen}

-- ---- numbers of windows

same_number : (step j a : ℕ) → 0 < step → (j * step == a * step) ≡ (j == a)
same_number step j a positive =
    (elim (j * step == a * step) as (λ b. (j * step == a * step) ≡ b → b ≡ (j == a)) [
      | true ↦ λ e.
          let same : j ≡ a = sym (mul-div_cancel j positive) ∙ ap (λ (n : ℕ). n / step) (eqb-true (j * step) (a * step) e) ∙ mul-div_cancel a positive in
          sym (eq-eqb j a same)
      | false ↦ λ e. sym (ne_eqb j a (λ same. eqb-false (j * step) (a * step) e (ap (λ (n : ℕ). n * step) same)))
    ]) refl

pub begins_one-number : (step a n j : ℕ) → 0 < step → begins_one step a n (j * step) ≡ (nat_le a j && nat_lt j (a + n))
begins_one-number step a zero j positive = none a j
  where
    none : (a j : ℕ) → false ≡ (nat_le a j && nat_lt j (a + 0))
    none a j = grind (arith, common_steps)
begins_one-number step a (suc n) j positive =
    rw (same_number step j a positive, begins_one-number step (a + 1) n j positive) (split a n j)
  where
    split : (a n j : ℕ) → ((j == a) || (nat_le (a + 1) j && nat_lt j (a + 1 + n))) ≡ (nat_le a j && nat_lt j (a + suc n))
    split a n j = grind (arith, common_steps)

pub one_begins : (step a n s : ℕ) → begins_one step a n s ≡ true → (j : ℕ) × (s ≡ j * step)
one_begins step a zero s e = absurd (cc)
one_begins step a (suc n) s e =
    (elim (s == a * step) as (λ b. (s == a * step) ≡ b → (b || begins_one step (a + 1) n s) ≡ true → (j : ℕ) × (s ≡ j * step)) [
      | true ↦ λ f g. (a, eqb-true s (a * step) f)
      | false ↦ λ f g. one_begins step (a + 1) n s g
    ]) refl e

-- a tuple's windows are those that begin at or below its time and end above it
pub within-window : (size step time j : ℕ) → 0 < step → (nat_le (window_count size step time) j && nat_lt j (time / step + 1)) ≡ (nat_le (j * step) time && nat_lt time (j * step + size))
within-window size step time j positive = by (nat_le (window_count size step time) j) refl
  where
    by : (b : Bool) → nat_le (window_count size step time) j ≡ b → (b && nat_lt j (time / step + 1)) ≡ (nat_le (j * step) time && nat_lt time (j * step + size))
    by true e =
        let open' : nat_lt time (j * step + size) ≡ true = lt-ltb time (j * step + size) (window_after size step time j positive (leb-true (window_count size step time) j e)) in
        rw open' (begun (nat_le (j * step) time) refl)
      where
        begun : (b : Bool) → nat_le (j * step) time ≡ b → nat_lt j (time / step + 1) ≡ (b && true)
        begun true f =
            let few : j ≤ time / step = (le-div_iff_mul-le {k = step} {x = j} {y = time} positive).1 (leb-true (j * step) time f) in
            lt-ltb j (time / step + 1) (omega (arith, few))
        begun false f =
            let many : ¬ (j ≤ time / step) = λ m. let low = (le-div_iff_mul-le {k = step} {x = j} {y = time} positive).0 m in let yes = le-leb (j * step) time low in absurd (cc) in
            le-ltb j (time / step + 1) (omega (arith, many))
    by false e =
        let over : j < window_count size step time = leb-false (window_count size step time) j e in
        let ends = window_before size step time j positive over in
        let closed : nat_lt time (j * step + size) ≡ false = le-ltb time (j * step + size) ends in
        rw closed (elim (nat_le (j * step) time) as (λ b. false ≡ (b && false)) [ true ↦ refl | false ↦ refl ])

pub count-begun : (size step time : ℕ) → 0 < step → window_count size step time ≤ time / step + 1
count-begun size step time positive = by (nat_lt (time / step + 1) (window_count size step time)) refl
  where
    by : (b : Bool) → nat_lt (time / step + 1) (window_count size step time) ≡ b → window_count size step time ≤ time / step + 1
    by false e = ltb-false (time / step + 1) (window_count size step time) e
    by true e =
        let ends = window_before size step time (time / step + 1) positive (ltb-true (time / step + 1) (window_count size step time) e) in
        let low : time / step + 1 ≤ time / step = (le-div_iff_mul-le {k = step} {x = time / step + 1} {y = time} positive).1 (omega (arith, ends)) in
        absurd (omega (arith, low))

-- ---- what was seen with one tuple more

module _ (size step : ℕ) (group : Option ℕ) (aggs : List Agg) where
  -- whether a tuple belongs to the cell with this begin and group
  abbrev pub belongs : ℕ → ℤ → Tuple → Bool
  belongs s q t = (nat_le s t.stime && is_below (s + size) t) && int_eq (group_of group t) q

  one_seen : (s : ℕ) (q : ℤ) (t : Tuple) → seen size group (t ∷ []) s q ≡ cond (belongs s q t) (t ∷ []) []
  one_seen s q t = elim (nat_le s t.stime && is_below (s + size) t) as (λ b. in_group group q (cond b (t ∷ []) []) ≡ cond (b && int_eq (group_of group t) q) (t ∷ []) []) [
    | true ↦ refl
    | false ↦ refl
  ]

  seen-more : (s : ℕ) (q : ℤ) (ts us : List Tuple) → seen size group (ts ++ us) s q ≡ seen size group ts s q ++ seen size group us s q
  seen-more s q ts us =
      ap (λ (vs : List Tuple). in_group group q vs) (filter-append (λ (t : Tuple). nat_le s t.stime && is_below (s + size) t) ts us)
      ∙ filter-append (λ (t : Tuple). int_eq (group_of group t) q) (between s (s + size) ts) (between s (s + size) us)

  grown-over : (us : List Tuple) (t : Tuple) → Some (grown aggs t (totals_over aggs us)) ≡ totals_over aggs (us ++ t ∷ [])
  grown-over [] t = ap Some (firsts_exact t aggs)
  grown-over (u ∷ us) t = ap Some (nexts_exact u us t aggs)

  pub totals-more : (s : ℕ) (q : ℤ) (ts : List Tuple) (t : Tuple) →
      cond (belongs s q t) (Some (grown aggs t (totals_over aggs (seen size group ts s q)))) (totals_over aggs (seen size group ts s q)) ≡ totals_over aggs (seen size group (ts ++ t ∷ []) s q)
  totals-more s q ts t =
      rw (seen-more s q ts (t ∷ []), one_seen s q t)
      (elim (belongs s q t) as (λ b. cond b (Some (grown aggs t (totals_over aggs (seen size group ts s q)))) (totals_over aggs (seen size group ts s q)) ≡ totals_over aggs (seen size group ts s q ++ cond b (t ∷ []) [])) [
        | true ↦ grown-over (seen size group ts s q) t
        | false ↦ ap (λ (us : List Tuple). totals_over aggs us) (sym (append-nil (seen size group ts s q)))
      ])

  -- ---- one tuple in all its windows

  module _ (positive : 0 < step) (t : Tuple) where
    abbrev with_windows : List Cell → ℕ → ℕ → List Cell
    with_windows cells a n = fold (λ cs j. take_cell aggs t cs (j * step, group_of group t)) cells (range_with_len a n)

    pub windows-sorted : (cells : List Cell) (a n : ℕ) → IsStrictlySortedBy cell_cmp (keys_of cells) → IsStrictlySortedBy cell_cmp (keys_of (with_windows cells a n))
    windows-sorted cells a zero s = s
    windows-sorted cells a (suc n) s = windows-sorted (take_cell aggs t cells (a * step, group_of group t)) (a + 1) n (take_cell-sorted aggs t cells (a * step, group_of group t) s)

    not_again : (a n : ℕ) → begins_one step (a + 1) n (a * step) ≡ false
    not_again a n = begins_one-number step (a + 1) n a positive ∙ low a n
      where
        low : (a n : ℕ) → (nat_le (a + 1) a && nat_lt a (a + 1 + n)) ≡ false
        low a n = grind (arith, common_steps)

    pub windows-at : (s : ℕ) (q : ℤ) (cells : List Cell) (a n : ℕ) →
        totals_at (s, q) (with_windows cells a n) ≡ cond (begins_one step a n s && int_eq (group_of group t) q) (Some (grown aggs t (totals_at (s, q) cells))) (totals_at (s, q) cells)
    windows-at s q cells a zero = refl
    windows-at s q cells a (suc n) =
        windows-at s q (take_cell aggs t cells (a * step, group_of group t)) (a + 1) n
        ∙ rw (totals_at-take_cell aggs t (s, q) (a * step, group_of group t) cells, is_key-parts s (a * step) q (group_of group t), int_eq_equiv.symm q (group_of group t))
        ((elim (int_eq (group_of group t) q) as (λ g. int_eq (group_of group t) q ≡ g →
        cond (begins_one step (a + 1) n s && g) (Some (grown aggs t (cond ((s == a * step) && g) (Some (grown aggs t (totals_at (a * step, group_of group t) cells))) (totals_at (s, q) cells))))
        (cond ((s == a * step) && g) (Some (grown aggs t (totals_at (a * step, group_of group t) cells))) (totals_at (s, q) cells))
        ≡ cond (((s == a * step) || begins_one step (a + 1) n s) && g) (Some (grown aggs t (totals_at (s, q) cells))) (totals_at (s, q) cells)) [
          | true ↦ λ e. same_group e (s == a * step) refl
          | false ↦ λ e. elsewhere (begins_one step (a + 1) n s) (s == a * step) (((s == a * step) || begins_one step (a + 1) n s))
        ]) refl)
      where
        elsewhere : (b c d : Bool) → cond (b && false) (Some (grown aggs t (cond (c && false) (Some (grown aggs t (totals_at (a * step, group_of group t) cells))) (totals_at (s, q) cells))))
            (cond (c && false) (Some (grown aggs t (totals_at (a * step, group_of group t) cells))) (totals_at (s, q) cells))
            ≡ cond (d && false) (Some (grown aggs t (totals_at (s, q) cells))) (totals_at (s, q) cells)
        elsewhere true true true = refl
        elsewhere true true false = refl
        elsewhere true false true = refl
        elsewhere true false false = refl
        elsewhere false true true = refl
        elsewhere false true false = refl
        elsewhere false false true = refl
        elsewhere false false false = refl

        same_group : int_eq (group_of group t) q ≡ true → (c : Bool) → (s == a * step) ≡ c →
            cond (begins_one step (a + 1) n s && true) (Some (grown aggs t (cond (c && true) (Some (grown aggs t (totals_at (a * step, group_of group t) cells))) (totals_at (s, q) cells))))
            (cond (c && true) (Some (grown aggs t (totals_at (a * step, group_of group t) cells))) (totals_at (s, q) cells))
            ≡ cond ((c || begins_one step (a + 1) n s) && true) (Some (grown aggs t (totals_at (s, q) cells))) (totals_at (s, q) cells)
        same_group e true f =
            let begin : s ≡ a * step = eqb-true s (a * step) f in
            let value : group_of group t ≡ q = (Decides-int_eq (group_of group t) q).0 e in
            let none : begins_one step (a + 1) n s ≡ false = ap (λ (m : ℕ). begins_one step (a + 1) n m) begin ∙ not_again a n in
            rw none (ap (λ (o : Option (List ℤ)). Some (grown aggs t o)) (λ i. totals_at (sym begin i, value i) cells))
        same_group e false f = elim (begins_one step (a + 1) n s) as (λ b. cond (b && true) (Some (grown aggs t (totals_at (s, q) cells))) (totals_at (s, q) cells) ≡ cond (b && true) (Some (grown aggs t (totals_at (s, q) cells))) (totals_at (s, q) cells)) [ true ↦ refl | false ↦ refl ]
