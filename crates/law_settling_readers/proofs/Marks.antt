-- The replicas that truncated what a port asked for, and the choice among the others, where all are heard to be STABLE.
use Rattle.std.proofs.Common.{◌≡◌, ℕ, zero, suc, ◌+◌, ◌<◌, ◌≤◌, Bool, true, false, cond, ◌&&◌, ◌||◌, ◌==◌, nat_le, nat_lt, List, [], ◌∷◌, map, length, refl, sym, ap, subst, ◌∙◌, arith, Option, Some, None, slice_get, unwrap_or, ◌⊎◌, inl, inr}
use Rattle.std.specs.Prelude.{is_none, is_some}
use Rattle.dpc_lists.specs.Lists.{nth, changed, least, list_all, place_of}
use Rattle.dpc_model.specs.Replicas.{Watch, after_beat, after_tick, after_count, with_mark, unmarked_at, is_absent, rank_of, rank_by, rank_order, choose}
use Rattle.dpc_model.specs.Ports.{Port, choice_at, all_truncated}
use Rattle.dpc_model.specs.declared.messages.NodeState.{NodeState}
use Rattle.dpc_model.specs.declared.messages.NodeState.TheVariants as state
use Rattle.dpc_model.specs.declared.messages.Rank.{Rank}
use Rattle.dpc_model.specs.declared.messages.Rank.TheVariants.{Stable, Absent}
use Rattle.dpc_lists.proofs.Truths.{eq-test, le-of}
use Rattle.dpc_model.proofs.Numbers.{zero-or}
use Rattle.law_settling_readers.proofs.Counts.{one_if, count}

abbrev pub Mark : Type 0
Mark = Option ℕ

abbrev pub marks_of : List Watch → List Mark
marks_of ws = map (λ (w : Watch). w.truncated) ws

-- how many replicas truncated nothing
abbrev pub free_in : List Mark → ℕ
free_in ms = count (λ (m : Mark). is_none m) ms

-- ---- what steps make of the marks

pub counted-marks : (n : ℕ) (ws : List Watch) → marks_of (map (after_count n) ws) ≡ map (unmarked_at n) (marks_of ws)
counted-marks n [] = refl
counted-marks n (w ∷ ws) = ap (λ (ms : List Mark). unmarked_at n w.truncated ∷ ms) (counted-marks n ws)

pub ticked-marks : (ws : List Watch) → marks_of (map after_tick ws) ≡ marks_of ws
ticked-marks [] = refl
ticked-marks (w ∷ ws) = ap (λ (ms : List Mark). w.truncated ∷ ms) (ticked-marks ws)

pub beaten-marks : (i inc : ℕ) (s : NodeState) (recovering : Bool) (ws : List Watch) → marks_of (changed i (after_beat inc s recovering) ws) ≡ marks_of ws
beaten-marks i inc s recovering [] = refl
beaten-marks zero inc s recovering (w ∷ ws) = ap (λ (m : Mark). m ∷ marks_of ws) (same w)
  where
    same : (w : Watch) → (after_beat inc s recovering w).truncated ≡ w.truncated
    same w = elim (nat_lt inc w.inc) as (λ b. (cond {A = Watch} b w (record w { inc = inc; ticks = 0; said = Some (s, recovering) })).truncated ≡ w.truncated) [ true ↦ refl | false ↦ refl ]
beaten-marks (suc i) inc s recovering (w ∷ ws) = ap (λ (ms : List Mark). w.truncated ∷ ms) (beaten-marks i inc s recovering ws)

pub marked-marks : (i base : ℕ) (ws : List Watch) → marks_of (changed i (with_mark base) ws) ≡ changed i (λ _. Some base) (marks_of ws)
marked-marks i base [] = refl
marked-marks zero base (w ∷ ws) = refl
marked-marks (suc i) base (w ∷ ws) = ap (λ (ms : List Mark). w.truncated ∷ ms) (marked-marks i base ws)

-- marks that are past this count stay
pub ended-twice : (n : ℕ) (ms : List Mark) → map (unmarked_at n) (map (unmarked_at n) ms) ≡ map (unmarked_at n) ms
ended-twice n [] = refl
ended-twice n (None ∷ ms) = ap (λ (rest : List Mark). None ∷ rest) (ended-twice n ms)
ended-twice n (Some b ∷ ms) =
    (elim (nat_le b n) as (λ c. nat_le b n ≡ c → unmarked_at n (cond {A = Mark} c None (Some b)) ∷ map (unmarked_at n) (map (unmarked_at n) ms) ≡ cond {A = Mark} c None (Some b) ∷ map (unmarked_at n) ms) [
      | true ↦ λ e. ap (λ (rest : List Mark). None ∷ rest) (ended-twice n ms)
      | false ↦ λ e. ap (λ (c : Bool). cond {A = Mark} c None (Some b) ∷ map (unmarked_at n) (map (unmarked_at n) ms)) e ∙ ap (λ (rest : List Mark). Some b ∷ rest) (ended-twice n ms)
    ]) refl

pub ended-marked : (n i base : ℕ) (ms : List Mark) → nat_le base n ≡ false → map (unmarked_at n) ms ≡ ms → map (unmarked_at n) (changed i (λ _. Some base) ms) ≡ changed i (λ _. Some base) ms
ended-marked n i base [] past h = refl
ended-marked n zero base (m ∷ ms) past h =
    ap (λ (c : Bool). cond {A = Mark} c None (Some base) ∷ map (unmarked_at n) ms) past ∙ ap (λ (rest : List Mark). Some base ∷ rest) (tail-of (map (unmarked_at n) ms) ms (unmarked_at n m) m h)
  where
    tail-of : (xs ys : List Mark) (x y : Mark) → x ∷ xs ≡ y ∷ ys → xs ≡ ys
    tail-of xs ys x y e = cc
ended-marked n (suc i) base (m ∷ ms) past h =
    let head : unmarked_at n m ≡ m = head-of (map (unmarked_at n) ms) ms (unmarked_at n m) m h in
    let tail : map (unmarked_at n) ms ≡ ms = tail-of (map (unmarked_at n) ms) ms (unmarked_at n m) m h in
    ap (λ (x : Mark). x ∷ map (unmarked_at n) (changed i (λ _. Some base) ms)) head ∙ ap (λ (rest : List Mark). m ∷ rest) (ended-marked n i base ms past tail)
  where
    head-of : (xs ys : List Mark) (x y : Mark) → x ∷ xs ≡ y ∷ ys → x ≡ y
    head-of xs ys x y e = cc

    tail-of : (xs ys : List Mark) (x y : Mark) → x ∷ xs ≡ y ∷ ys → xs ≡ ys
    tail-of xs ys x y e = cc

-- a mark more
pub free-marked : (i base : ℕ) (ms : List Mark) → free_in (changed i (λ _. Some base) ms) ≤ free_in ms
free-marked i base [] = omega arith
free-marked zero base (m ∷ ms) = omega arith
free-marked (suc i) base (m ∷ ms) = let rest = free-marked i base ms in omega (arith, rest)

pub free-fewer : (i base : ℕ) (ms : List Mark) → i < length ms → nth None ms i ≡ None → free_in (changed i (λ _. Some base) ms) + 1 ≤ free_in ms
free-fewer i base [] low e = absurd (omega (arith, low))
free-fewer zero base (m ∷ ms) low e = let here : one_if (is_none m) ≡ 1 = ap (λ (x : Mark). one_if (is_none x)) e in omega (arith, here)
free-fewer (suc i) base (m ∷ ms) low e = let rest = free-fewer i base ms (omega (arith, low)) e in omega (arith, rest)

pub not-all-free : (q : Port) → all_truncated q ≡ false → 1 ≤ free_in (marks_of q.watches)
not-all-free q h = by-list q.watches h
  where
    by-list : (ws : List Watch) → list_all (λ (w : Watch). elim w.truncated as (λ _. Bool) [ None ↦ false | Some base ↦ true ]) ws ≡ false → 1 ≤ free_in (marks_of ws)
    by-list [] e = cc
    by-list (w ∷ ws) e =
        (elim w.truncated as (λ o. (elim o as (λ _. Bool) [ None ↦ false | Some base ↦ true ] && list_all (λ (v : Watch). elim v.truncated as (λ _. Bool) [ None ↦ false | Some base ↦ true ]) ws) ≡ false → 1 ≤ one_if (is_none o) + free_in (marks_of ws)) [
          | None ↦ λ d. omega arith
          | Some b ↦ λ d. let rest = by-list ws d in omega (arith, rest)
        ]) e

-- ---- ranks

-- heard of, and STABLE
pub record IsCalm (w : Watch) : Type 0 where
  pub said : w.said ≡ Some (state.Stable, false)
  pub ticks : w.ticks ≤ 2

abbrev pub AreCalm : List Watch → Type 0
AreCalm ws = (i : ℕ) (w : Watch) → slice_get ws i ≡ Some w → IsCalm w

abbrev order_of : Mark → ℕ
order_of None = 0
order_of (Some b) = 3

calm-order : (w : Watch) → IsCalm w → rank_order (rank_of w) ≡ order_of w.truncated
calm-order w h =
    let silent : is_absent w ≡ is_some w.truncated = ap (λ (b : Bool). b || is_some w.truncated) (late w.ticks h.ticks) in
    let ranked : rank_of w ≡ cond (is_some w.truncated) Absent Stable = ap (λ (b : Bool). cond {A = Rank} b Absent (rank_by w.said)) silent ∙ ap (λ (s : Option (NodeState × Bool)). cond {A = Rank} (is_some w.truncated) Absent (rank_by s)) h.said in
    ap rank_order ranked ∙ by-mark w.truncated
  where
    late : (n : ℕ) → n ≤ 2 → nat_le 3 n ≡ false
    late n low = by-test (nat_le 3 n) refl
      where
        by-test : (b : Bool) → nat_le 3 n ≡ b → nat_le 3 n ≡ false
        by-test false e = e
        by-test true e = let three = le-of 3 n e in absurd (omega (arith, low, three))

    by-mark : (m : Mark) → rank_order (cond (is_some m) Absent Stable) ≡ order_of m
    by-mark None = refl
    by-mark (Some b) = refl

orders-are : (ws : List Watch) → AreCalm ws → map rank_order (map rank_of ws) ≡ map order_of (marks_of ws)
orders-are [] h = refl
orders-are (w ∷ ws) h = ap (λ (n : ℕ). n ∷ map rank_order (map rank_of ws)) (calm-order w (h 0 w refl)) ∙ ap (λ (ns : List ℕ). order_of w.truncated ∷ ns) (orders-are ws (λ i v e. h (suc i) v e))

least-none : (ms : List Mark) (i : ℕ) → i < length ms → nth None ms i ≡ None → least 3 (map order_of ms) ≡ 0
least-none [] i low e = absurd (omega (arith, low))
least-none (m ∷ []) zero low e = ap order_of e
least-none (m ∷ []) (suc i) low e = absurd (omega (arith, low))
least-none (m ∷ d ∷ ms) zero low e = let here : order_of m ≡ 0 = ap order_of e in omega (arith, here)
least-none (m ∷ d ∷ ms) (suc i) low e = let rest = least-none (d ∷ ms) i (omega (arith, low)) e in omega (arith, rest)

least-all : (ms : List Mark) → free_in ms ≡ 0 → least 3 (map order_of ms) ≡ 3
least-all [] e = refl
least-all (None ∷ ms) e = absurd (omega (arith, e))
least-all (Some b ∷ []) e = refl
least-all (Some b ∷ d ∷ ms) e = let rest = least-all (d ∷ ms) (omega (arith, e)) in omega (arith, rest)

some-free : (ms : List Mark) → 1 ≤ free_in ms → (i : ℕ) × (i < length ms) × (nth None ms i ≡ None)
some-free [] h = absurd (omega (arith, h))
some-free (None ∷ ms) h = (0, omega arith, refl)
some-free (Some b ∷ ms) h = let rest = some-free ms (omega (arith, h)) in let low = rest.1 in (suc rest.0, omega (arith, low), rest.2)

order-at : (ms : List Mark) (i : ℕ) → i < length ms → nth 3 (map order_of ms) i ≡ order_of (nth None ms i)
order-at [] i low = absurd (omega (arith, low))
order-at (m ∷ ms) zero low = refl
order-at (m ∷ ms) (suc i) low = order-at ms i (omega (arith, low))

-- the first of order 0 is there, and has no mark
first-free : (ms : List Mark) (i : ℕ) → i < length ms → nth None ms i ≡ None → (j : ℕ) × (place_of (λ o. o == 0) (map order_of ms) ≡ Some j) × (j < length ms) × (nth None ms j ≡ None)
first-free [] i low e = absurd (omega (arith, low))
first-free (None ∷ ms) i low e = (0, refl, omega arith, refl)
first-free (Some b ∷ ms) zero low e = cc
first-free (Some b ∷ ms) (suc i) low e =
    let rest = first-free ms i (omega (arith, low)) e in
    let below = rest.2 in
    (suc rest.0, ap (λ (o : Option ℕ). elim o as (λ _. Option ℕ) [ None ↦ None | Some c ↦ Some (suc c) ]) rest.1, omega (arith, below), rest.3)

chosen-by : (current : ℕ) (orders : List ℕ) → ℕ
chosen-by current orders = cond (nth 3 orders current == least 3 orders) current (unwrap_or (place_of (λ o. o == least 3 orders) orders) current)

-- the choice: the present replica where it truncated nothing, or all did; else another one that did not
pub calm-stays : (q : Port) → AreCalm q.watches → q.chosen < length (marks_of q.watches) → (nth None (marks_of q.watches) q.chosen ≡ None) ⊎ (free_in (marks_of q.watches) ≡ 0) → choice_at q ≡ q.chosen
calm-stays q h low fits =
    let ms = marks_of q.watches in
    let best : (nth 3 (map order_of ms) q.chosen == least 3 (map order_of ms)) ≡ true = eq-test (nth 3 (map order_of ms) q.chosen) (least 3 (map order_of ms)) (same fits) in
    ap (λ (os : List ℕ). cond (nth 3 os q.chosen == least 3 os) q.chosen (unwrap_or (place_of (λ o. o == least 3 os) os) q.chosen)) (orders-are q.watches h)
    ∙ ap (λ (b : Bool). cond b q.chosen (unwrap_or (place_of (λ o. o == least 3 (map order_of ms)) (map order_of ms)) q.chosen)) best
  where
    marked : (ms : List Mark) (i : ℕ) → i < length ms → free_in ms ≡ 0 → order_of (nth None ms i) ≡ 3
    marked [] i low e = absurd (omega (arith, low))
    marked (None ∷ ms) i low e = absurd (omega (arith, e))
    marked (Some b ∷ ms) zero low e = refl
    marked (Some b ∷ ms) (suc i) low e = marked ms i (omega (arith, low)) (omega (arith, e))

    same : (nth None (marks_of q.watches) q.chosen ≡ None) ⊎ (free_in (marks_of q.watches) ≡ 0) → nth 3 (map order_of (marks_of q.watches)) q.chosen ≡ least 3 (map order_of (marks_of q.watches))
    same (inl none) = order-at (marks_of q.watches) q.chosen low ∙ ap order_of none ∙ sym (least-none (marks_of q.watches) q.chosen low none)
    same (inr all) = order-at (marks_of q.watches) q.chosen low ∙ marked (marks_of q.watches) q.chosen low all ∙ sym (least-all (marks_of q.watches) all)

pub calm-turns : (q : Port) → AreCalm q.watches → q.chosen < length (marks_of q.watches) → (b : ℕ) → nth None (marks_of q.watches) q.chosen ≡ Some b → 1 ≤ free_in (marks_of q.watches) →
    (choice_at q < length (marks_of q.watches)) × (nth None (marks_of q.watches) (choice_at q) ≡ None)
calm-turns q h low b mark some =
    let ms = marks_of q.watches in
    let free = some-free ms some in
    let first = first-free ms free.0 free.1 free.2 in
    let best = least-none ms free.0 free.1 free.2 in
    let here : nth 3 (map order_of ms) q.chosen ≡ 3 = order-at ms q.chosen low ∙ ap order_of mark in
    let other : (nth 3 (map order_of ms) q.chosen == least 3 (map order_of ms)) ≡ false = rw (here, best) refl in
    let is : choice_at q ≡ first.0 =
    ap (λ (os : List ℕ). cond (nth 3 os q.chosen == least 3 os) q.chosen (unwrap_or (place_of (λ o. o == least 3 os) os) q.chosen)) (orders-are q.watches h)
    ∙ ap (λ (c : Bool). cond c q.chosen (unwrap_or (place_of (λ o. o == least 3 (map order_of ms)) (map order_of ms)) q.chosen)) other
    ∙ ap (λ (n : ℕ). unwrap_or (place_of (λ o. o == n) (map order_of ms)) q.chosen) best ∙ ap (λ (o : Option ℕ). unwrap_or o q.chosen) first.1 in
    (subst (λ (j : ℕ). j < length ms) (sym is) first.2, ap (λ (j : ℕ). nth None ms j) is ∙ first.3)

-- ---- one replica, or all heard

abbrev pub AreHeard : List Watch → Type 0
AreHeard ws = (length ws ≤ 1) ⊎ AreCalm ws

pub heard-stays : (q : Port) → AreHeard q.watches → q.chosen < length (marks_of q.watches) → (nth None (marks_of q.watches) q.chosen ≡ None) ⊎ (free_in (marks_of q.watches) ≡ 0) → choice_at q ≡ q.chosen
heard-stays q (inr calm) low fits = calm-stays q calm low fits
heard-stays q (inl one) low fits = by-list q.watches one low
  where
    by-list : (ws : List Watch) → length ws ≤ 1 → q.chosen < length (marks_of ws) → choose q.chosen (map rank_of ws) ≡ q.chosen
    by-list [] few h = absurd (omega (arith, h))
    by-list (w ∷ v ∷ ws) few h = absurd (omega (arith, few))
    by-list (w ∷ []) few h =
        let none : q.chosen ≡ 0 = omega (arith, h) in
        let best : (nth 3 (rank_order (rank_of w) ∷ []) q.chosen == rank_order (rank_of w)) ≡ true = eq-test _ _ (ap (λ (i : ℕ). nth 3 (rank_order (rank_of w) ∷ []) i) none) in
        ap (λ (b : Bool). cond {A = ℕ} b q.chosen (unwrap_or (place_of (λ o. o == rank_order (rank_of w)) (rank_order (rank_of w) ∷ [])) q.chosen)) best

pub heard-turns : (q : Port) → AreHeard q.watches → q.chosen < length (marks_of q.watches) → (b : ℕ) → nth None (marks_of q.watches) q.chosen ≡ Some b → 1 ≤ free_in (marks_of q.watches) →
    (choice_at q < length (marks_of q.watches)) × (nth None (marks_of q.watches) (choice_at q) ≡ None)
heard-turns q (inr calm) low b mark some = calm-turns q calm low b mark some
heard-turns q (inl one) low b mark some = absurd (by-list q.watches one low mark some)
  where
    by-list : (ws : List Watch) → length ws ≤ 1 → q.chosen < length (marks_of ws) → nth None (marks_of ws) q.chosen ≡ Some b → 1 ≤ free_in (marks_of ws) → ⊥
    by-list [] few h is free = omega (arith, h)
    by-list (w ∷ v ∷ ws) few h is free = omega (arith, few)
    by-list (w ∷ []) few h is free =
        let none : q.chosen ≡ 0 = omega (arith, h) in
        let here : w.truncated ≡ Some b = ap (λ (i : ℕ). nth None (w.truncated ∷ []) i) (sym none) ∙ is in
        let counted : one_if (is_none w.truncated) ≡ 0 = ap (λ (m : Mark). one_if (is_none m)) here in
        omega (arith, counted, free)

-- so what is chosen truncated nothing, or all did
abbrev pub Fits : ℕ → List Mark → Type 0
Fits c ms = (nth None ms c ≡ None) ⊎ (free_in ms ≡ 0)

pub choice-fits : (q : Port) → AreHeard q.watches → q.chosen < length (marks_of q.watches) → Fits (choice_at q) (marks_of q.watches)
choice-fits q heard low =
    elim (zero-or (free_in (marks_of q.watches))) [
      | inl none ↦ inr none
      | inr some ↦ by-mark (nth None (marks_of q.watches) q.chosen) refl some
    ]
  where
    by-mark : (m : Mark) → nth None (marks_of q.watches) q.chosen ≡ m → 1 ≤ free_in (marks_of q.watches) → Fits (choice_at q) (marks_of q.watches)
    by-mark None e some = inl (ap (λ (j : ℕ). nth None (marks_of q.watches) j) (heard-stays q heard low (inl e)) ∙ e)
    by-mark (Some b) e some = inl (heard-turns q heard low b e some).1
