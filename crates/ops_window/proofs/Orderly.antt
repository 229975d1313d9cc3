-- Cells in good order stay so over a bucket, and the rows of the windows that end in it lie in it, whatever the totals are.
use Rattle.std.proofs.Common.{◌≡◌, ℕ, zero, suc, ◌+◌, ◌-◌, ◌*◌, ◌/◌, ◌%◌, ◌<◌, ◌≤◌, Bool, true, false, cond, ◌==◌, ◌&&◌, List, [], ◌∷◌, ◌++◌, map, length, refl, sym, ap, subst, arith, All, ℤ, Option, Some, None, nat_lt}
use Rattle.std.proofs.lemmas.Grind.{common_steps}
use Rattle.std.proofs.lemmas.Bool.{and_parts, eqb-true, eq-eqb, lt-ltb, ltb-true, leb-true, leb-false, ltb-false, le-ltb}
use Rattle.std.proofs.lemmas.List.{length-map}
use Rattle.std.proofs.lemmas.List.Elements.{All-from_recursion}
use Rattle.std.proofs.Math.Nat.{mul-mod_left, le-div_iff_mul-le}
use Rattle.std.specs.declared.cmp.Ordering.TheVariants.{Less, Equal, Greater}
use Rattle.std.specs.Ordering.{match_ordering}
use Rattle.std.specs.List.{AllByRecursion, fold, flat_map}
use Rattle.std.specs.List.Sorted.{IsStrictlySortedBy}
use Rattle.std.specs.BTreeMap.{insert_entry, is_at}
use Rattle.std.specs.Map.{keys_of}
use Rattle.dpc_lists.specs.Lists.{range_with_len}
use Rattle.dpc_model.specs.Fragments.{at_port}
use Rattle.dpc_model.specs.Engines.{IsBucket}
use Rattle.dpc_model.specs.Operators.{window_count}
use Rattle.dpc_model.specs.declared.tuples.Tuple.{Tuple}
use Rattle.dpc_model.specs.declared.tuples.Tagged.{Tagged}
use Rattle.dpc_model.specs.declared.operators.Agg.{Agg}
use Rattle.dpc_model.proofs.Buckets.{at_port-all, bucket-from, bucket-below}
use Rattle.dpc_model.proofs.WindowCausality.{window_after}
use Rattle.ops_window.specs.Windows.{Cell as Kept, group_of, reach}
use Rattle.ops_window.specs.Feeding.{cell_cmp, totals_at, first_total, grown, next_totals, take_cell, take_tuple, take_tuples, first_cells, later_cells, has_ended, cell_row, join_cell, joined, joined_cells, joined_rows, pane_rows, left_cells, ended_rows, cells_before, cells_behind, ended_cells}
use Rattle.ops_window.specs.Saving.{saved_of, all_saved, all_kept, can_be_group, can_wait, can_wait_from, can_all_wait, stands_behind}
use Rattle.ops_window.proofs.Lookups.{cell_cmp_exact}
use Rattle.ops_window.proofs.Reach.{reach-le}
use Rattle.ops_window.proofs.Feeds.{windows-sorted, count-begun}
use Rattle.ops_window.proofs.Resumes.{wait-sorted, wait-from, all-first}

-- ---- lists of cells

insert-all : (P : Kept → Type 0) (k : ℕ × ℤ) (v : List ℤ) (es : List Kept) → P (k, v) → AllByRecursion P es → AllByRecursion P (insert_entry cell_cmp es k v)
insert-all P k v [] p h = (p, tt)
insert-all P k v (e ∷ es) p h =
    (elim (cell_cmp k e.0) as (λ r. cell_cmp k e.0 ≡ r → AllByRecursion P (match_ordering r ((k, v) ∷ e ∷ es) ((e.0, v) ∷ es) (e ∷ insert_entry cell_cmp es k v))) [
      | Less ↦ λ c. (p, h)
      | Equal ↦ λ c. (subst (λ (j : ℕ × ℤ). P (j, v)) (cell_cmp_exact k e.0 c) p, h.1)
      | Greater ↦ λ c. (h.0, insert-all P k v es p h.1)
    ]) refl

first-all : (P : Kept → Type 0) (test : ℕ → Bool) (cells : List Kept) → AllByRecursion P cells → AllByRecursion (λ (c : Kept). P c × (test c.0.0 ≡ true)) (first_cells test cells)
first-all P test [] h = tt
first-all P test (c ∷ cells) h =
    (elim (test c.0.0) as (λ b. test c.0.0 ≡ b → AllByRecursion (λ (d : Kept). P d × (test d.0.0 ≡ true)) (cond b (c ∷ first_cells test cells) [])) [
      | true ↦ λ e. ((h.0, e), first-all P test cells h.1)
      | false ↦ λ e. tt
    ]) refl

less-begin : (m n : ℕ) (z y : ℤ) → cell_cmp (m, z) (n, y) ≡ Less → m ≤ n
less-begin m n z y e = by (nat_lt n m) refl
  where
    by : (b : Bool) → nat_lt n m ≡ b → m ≤ n
    by false f = ltb-false n m f
    by true f = absurd (more m n z y (ltb-true n m f) e)
      where
        more : (m n : ℕ) (z y : ℤ) → n < m → cell_cmp (m, z) (n, y) ≡ Less → ⊥
        more m n z y h g =
            let no-less : nat_lt m n ≡ false = grind (arith, common_steps) in
            let apart : (m == n) ≡ false = grind (arith, common_steps) in
            let none : Greater ≡ Less = rw (no-less, apart) at g in
            cc

-- behind the first cells that pass a test, of cells in order, none does where those that begin later fail with it
later-all : (P : Kept → Type 0) (test : ℕ → Bool) → ((m n : ℕ) → m ≤ n → test m ≡ false → test n ≡ false) → (cells : List Kept) → IsStrictlySortedBy cell_cmp (keys_of cells) → AllByRecursion P cells →
    AllByRecursion (λ (c : Kept). P c × (test c.0.0 ≡ false)) (later_cells test cells)
unfolding IsStrictlySortedBy
later-all P test mono [] s h = tt
later-all P test mono (c ∷ cells) s h =
    (elim (test c.0.0) as (λ b. test c.0.0 ≡ b → AllByRecursion (λ (d : Kept). P d × (test d.0.0 ≡ false)) (cond b (later_cells test cells) (c ∷ cells))) [
      | true ↦ λ e. later-all P test mono cells s.1 h.1
      | false ↦ λ e. ((h.0, e), behind e cells s.0 h.1)
    ]) refl
  where
    behind : test c.0.0 ≡ false → (ds : List Kept) → AllByRecursion (λ k. cell_cmp c.0 k ≡ Less) (keys_of ds) → AllByRecursion P ds → AllByRecursion (λ (d : Kept). P d × (test d.0.0 ≡ false)) ds
    behind e [] l p = tt
    behind e (d ∷ ds) l p = ((p.0, mono c.0.0 d.0.0 (less-begin c.0.0 d.0.0 c.0.1 d.0.1 l.0) e), behind e ds l.1 p.1)

later-sorted : (test : ℕ → Bool) (cells : List Kept) → IsStrictlySortedBy cell_cmp (keys_of cells) → IsStrictlySortedBy cell_cmp (keys_of (later_cells test cells))
unfolding IsStrictlySortedBy
later-sorted test [] s = s
later-sorted test (c ∷ cells) s =
    elim (test c.0.0) as (λ b. IsStrictlySortedBy cell_cmp (keys_of (cond b (later_cells test cells) (c ∷ cells)))) [
      | true ↦ later-sorted test cells s.1
      | false ↦ s
    ]

weaker : (P Q : Kept → Type 0) → ((c : Kept) → P c → Q c) → (cells : List Kept) → AllByRecursion P cells → AllByRecursion Q cells
weaker P Q f [] h = tt
weaker P Q f (c ∷ cells) h = (f c h.0, weaker P Q f cells h.1)

-- ---- totals

next_totals-length : (t : Tuple) (aggs : List Agg) (zs : List ℤ) → length zs ≡ length aggs → length (next_totals t aggs zs) ≡ length aggs
next_totals-length t [] zs h = h
next_totals-length t (a ∷ aggs) [] h = h
next_totals-length t (a ∷ aggs) (z ∷ zs) h = let rest = next_totals-length t aggs zs (omega (arith, h)) in omega (arith, rest)

module _ (size step : ℕ) (group : Option ℕ) (aggs : List Agg) where
  -- a cell of a pane or window that begins below a time, where the window that begins with it ends above another
  pub record IsOpen (low high : ℕ) (c : Kept) : Type 0 where
    pub at_step : c.0.0 % step ≡ 0
    pub begun : c.0.0 < high
    pub ends : low < c.0.0 + size
    pub may_be : can_be_group group c.0.1 ≡ true
    pub many : length c.1 ≡ length aggs

  open-wait : (b : ℕ) (c : Kept) → can_wait size step group aggs b (saved_of c) ≡ true → IsOpen b b c
  open-wait b c e =
      let halves = and_parts ((c.0.0 % step == 0) && (nat_lt c.0.0 b && nat_lt b (c.0.0 + size))) (can_be_group group c.0.1 && (length c.1 == length aggs)) e in
      let first = and_parts (c.0.0 % step == 0) (nat_lt c.0.0 b && nat_lt b (c.0.0 + size)) halves.0 in
      let times = and_parts (nat_lt c.0.0 b) (nat_lt b (c.0.0 + size)) first.1 in
      let second = and_parts (can_be_group group c.0.1) (length c.1 == length aggs) halves.1 in
      record {
        at_step = eqb-true (c.0.0 % step) 0 first.0;
        begun = ltb-true c.0.0 b times.0;
        ends = ltb-true b (c.0.0 + size) times.1;
        may_be = second.0;
        many = eqb-true (length c.1) (length aggs) second.1;
      }

  wait-open : (b : ℕ) (c : Kept) → IsOpen b b c → can_wait size step group aggs b (saved_of c) ≡ true
  wait-open b c h =
      let at = eq-eqb (c.0.0 % step) 0 h.at_step in
      let early = lt-ltb c.0.0 b h.begun in
      let late = lt-ltb b (c.0.0 + size) h.ends in
      let many = eq-eqb (length c.1) (length aggs) h.many in
      rw (at, early, late, h.may_be, many) refl

  waiting-open : (b : ℕ) (last : Option (ℕ × ℤ)) (cells : List Kept) → can_wait_from size step group aggs b last (all_saved cells) ≡ true → AllByRecursion (IsOpen b b) cells
  waiting-open b last [] e = tt
  waiting-open b last (c ∷ cells) e =
      let parts = and_parts (stands_behind last c.0 && can_wait size step group aggs b (saved_of c)) (can_wait_from size step group aggs b (Some c.0) (all_saved cells)) e in
      let here = and_parts (stands_behind last c.0) (can_wait size step group aggs b (saved_of c)) parts.0 in
      (open-wait b c here.1, waiting-open b (Some c.0) cells parts.1)

  keys-saved : (cells : List Kept) → keys_of cells ≡ keys_of (all_kept (all_saved cells))
  keys-saved [] = refl
  keys-saved (c ∷ cells) = ap (λ (ks : List (ℕ × ℤ)). c.0 ∷ ks) (keys-saved cells)

  -- ---- a tuple taken in

  found-many : (key : ℕ × ℤ) (t : Tuple) (low high : ℕ) (cells : List Kept) → AllByRecursion (IsOpen low high) cells → length (grown aggs t (totals_at key cells)) ≡ length aggs
  found-many key t low high [] h = length-map aggs (first_total t)
  found-many key t low high (c ∷ cells) h =
      elim (is_at (cell_cmp key) c.0) as (λ b. length (grown aggs t (cond b (Some c.1) (totals_at key cells))) ≡ length aggs) [
        | true ↦ next_totals-length t aggs c.1 h.0.many
        | false ↦ found-many key t low high cells h.1
      ]

  group-may : (t : Tuple) → can_be_group group (group_of group t) ≡ true
  group-may t = by group
    where
      by : (g : Option ℕ) → can_be_group g (group_of g t) ≡ true
      by None = refl
      by (Some n) = refl

  cell-open : (t : Tuple) (low high j : ℕ) (cells : List Kept) → AllByRecursion (IsOpen low high) cells → j * step < high → low < j * step + size →
      AllByRecursion (IsOpen low high) (take_cell aggs t cells (j * step, group_of group t))
  cell-open t low high j cells h early late =
      let key : ℕ × ℤ = (j * step, group_of group t) in
      insert-all (IsOpen low high) key (grown aggs t (totals_at key cells)) cells (record {
        at_step = mul-mod_left j step;
        begun = early;
        ends = late;
        may_be = group-may t;
        many = found-many key t low high cells h;
      }) h

  module _ (some : 0 < size) (positive : 0 < step) where
    abbrev with_windows : Tuple → List Kept → ℕ → ℕ → List Kept
    with_windows t cells a n = fold (λ cs j. take_cell aggs t cs (j * step, group_of group t)) cells (range_with_len a n)

    windows-open : (t : Tuple) (low high : ℕ) (cells : List Kept) (a n : ℕ) → AllByRecursion (IsOpen low high) cells → ((j : ℕ) → a ≤ j → j < a + n → (j * step < high) × (low < j * step + size)) →
        AllByRecursion (IsOpen low high) (with_windows t cells a n)
    windows-open t low high cells a zero h each = h
    windows-open t low high cells a (suc n) h each =
        let here = each a (omega arith) (omega arith) in
        windows-open t low high (take_cell aggs t cells (a * step, group_of group t)) (a + 1) n (cell-open t low high a cells h here.0 here.1)
        (λ j from to. each j (omega (arith, from)) (omega (arith, to)))

    tuple-open : (t : Tuple) (low high : ℕ) (cells : List Kept) → AllByRecursion (IsOpen low high) cells → low ≤ t.stime → t.stime < high →
        AllByRecursion (IsOpen low high) (take_tuple (reach size step) step group aggs cells t)
    tuple-open t low high cells h from below =
        let first = window_count (reach size step) step t.stime in
        let some-count = count-begun (reach size step) step t.stime positive in
        windows-open t low high cells first (t.stime / step + 1 - first) h (λ j least most.
        let few : j ≤ t.stime / step = omega (arith, most, some-count) in
        let begins : j * step ≤ t.stime = (le-div_iff_mul-le {k = step} {x = j} {y = t.stime} positive).0 few in
        let ends : t.stime < j * step + reach size step = window_after (reach size step) step t.stime j positive least in
        let short = reach-le size step some in
        (omega (arith, begins, below), omega (arith, ends, short, from)))

    tuple-sorted : (t : Tuple) (cells : List Kept) → IsStrictlySortedBy cell_cmp (keys_of cells) → IsStrictlySortedBy cell_cmp (keys_of (take_tuple (reach size step) step group aggs cells t))
    tuple-sorted t cells s =
        let first = window_count (reach size step) step t.stime in
        windows-sorted (reach size step) step group aggs positive t cells first (t.stime / step + 1 - first) s

    tuples-open : (low high : ℕ) (cells : List Kept) (ts : List Tuple) → AllByRecursion (IsOpen low high) cells → AllByRecursion (λ (t : Tuple). low ≤ t.stime) ts → AllByRecursion (λ (t : Tuple). t.stime < high) ts →
        AllByRecursion (IsOpen low high) (take_tuples (reach size step) step group aggs cells ts)
    tuples-open low high cells [] h from below = h
    tuples-open low high cells (t ∷ ts) h from below = tuples-open low high (take_tuple (reach size step) step group aggs cells t) ts (tuple-open t low high cells h from.0 below.0) from.1 below.1

    tuples-sorted : (cells : List Kept) (ts : List Tuple) → IsStrictlySortedBy cell_cmp (keys_of cells) → IsStrictlySortedBy cell_cmp (keys_of (take_tuples (reach size step) step group aggs cells ts))
    tuples-sorted cells [] s = s
    tuples-sorted cells (t ∷ ts) s = tuples-sorted (take_tuple (reach size step) step group aggs cells t) ts (tuple-sorted t cells s)

    -- ---- the cells that are left

    left-open : (low high : ℕ) (cells : List Kept) → IsStrictlySortedBy cell_cmp (keys_of cells) → AllByRecursion (IsOpen low high) cells → AllByRecursion (IsOpen high high) (left_cells size step high cells)
    left-open low high cells s h =
        (elim (reach size step == size) as (λ x. AllByRecursion (IsOpen high high) (cond x (later_cells (has_ended size high) cells) (later_cells (λ begin. nat_lt begin (window_count size step high * step)) cells))) [
          | true ↦ weaker (λ (c : Kept). IsOpen low high c × (has_ended size high c.0.0 ≡ false)) (IsOpen high high) (λ c p. at-end c p.0 (leb-false (c.0.0 + size) high p.1)) (later_cells (has_ended size high) cells)
              (later-all (IsOpen low high) (has_ended size high) (λ m n l e. ended-mono m n l e) cells s h)
          | false ↦ weaker (λ (c : Kept). IsOpen low high c × (nat_lt c.0.0 (window_count size step high * step) ≡ false)) (IsOpen high high) (λ c p. at-end c p.0 (pane-end c.0.0 (ltb-false c.0.0 (window_count size step high * step) p.1)))
              (later_cells (λ begin. nat_lt begin (window_count size step high * step)) cells)
              (later-all (IsOpen low high) (λ begin. nat_lt begin (window_count size step high * step)) (λ m n l e. le-ltb n (window_count size step high * step) (before-mono m n l (ltb-false m (window_count size step high * step) e))) cells s h)
        ])
      where
        at-end : (c : Kept) → IsOpen low high c → high < c.0.0 + size → IsOpen high high c
        at-end c p e = record { at_step = p.at_step; begun = p.begun; ends = e; may_be = p.may_be; many = p.many }

        ended-mono : (m n : ℕ) → m ≤ n → has_ended size high m ≡ false → has_ended size high n ≡ false
        ended-mono m n l e = grind (arith, common_steps)

        before-mono : (m n : ℕ) → m ≤ n → window_count size step high * step ≤ m → window_count size step high * step ≤ n
        before-mono m n l h = omega (arith, l, h)

        pane-end : (n : ℕ) → window_count size step high * step ≤ n → high < n + size
        pane-end n l = let over = window_after size step high (window_count size step high) positive (omega arith) in omega (arith, over, l)

    left-sorted : (b : ℕ) (cells : List Kept) → IsStrictlySortedBy cell_cmp (keys_of cells) → IsStrictlySortedBy cell_cmp (keys_of (left_cells size step b cells))
    left-sorted b cells s =
        elim (reach size step == size) as (λ x. IsStrictlySortedBy cell_cmp (keys_of (cond x (later_cells (has_ended size b) cells) (later_cells (λ begin. nat_lt begin (window_count size step b * step)) cells)))) [
          | true ↦ later-sorted (has_ended size b) cells s
          | false ↦ later-sorted (λ begin. nat_lt begin (window_count size step b * step)) cells s
        ]

    -- ---- rows

    abbrev pub IsInside : ℕ → ℕ → Tuple → Type 0
    IsInside low high t = (low ≤ t.stime) × (t.stime < high)

    -- the rows of cells whose windows end above a time and by another
    rows-inside : (low high : ℕ) (cells : List Kept) → AllByRecursion (λ (c : Kept). (low < c.0.0 + size) × (has_ended size high c.0.0 ≡ true)) cells → AllByRecursion (IsInside low high) (map (cell_row size group aggs) cells)
    rows-inside low high [] h = tt
    rows-inside low high (c ∷ cells) h =
        let above = h.0.0 in
        let by-end = leb-true (c.0.0 + size) high h.0.1 in
        ((omega (arith, some, above), omega (arith, some, by-end)), rows-inside low high cells h.1)

    joined-from : (begin : ℕ) (window cells : List Kept) → AllByRecursion (λ (c : Kept). begin ≤ c.0.0) window → AllByRecursion (λ (c : Kept). begin ≤ c.0.0) (fold (join_cell aggs begin) window cells)
    joined-from begin window [] h = h
    joined-from begin window (c ∷ cells) h =
        joined-from begin (join_cell aggs begin window c) cells (insert-all (λ (d : Kept). begin ≤ d.0.0) (begin, c.0.1) (joined aggs c.1 (totals_at (begin, c.0.1) window)) window (omega arith) h)

    window-from : (begin : ℕ) (cells : List Kept) → IsStrictlySortedBy cell_cmp (keys_of cells) → AllByRecursion (λ (c : Kept). begin ≤ c.0.0) (joined_cells size step aggs begin cells)
    window-from begin cells s =
        let all : AllByRecursion (λ (c : Kept). Unit {0}) cells = any cells in
        let behind = later-all (λ (c : Kept). Unit {0}) (λ n. nat_lt n begin) (λ m n l e. le-ltb n begin (still m n l (ltb-false m begin e))) cells s all in
        let from = weaker (λ (c : Kept). Unit {0} × (nat_lt c.0.0 begin ≡ false)) (λ (c : Kept). begin ≤ c.0.0) (λ c p. ltb-false c.0.0 begin p.1) (cells_behind begin cells) behind in
        let firsts = first-all (λ (c : Kept). begin ≤ c.0.0) (λ n. nat_lt n (begin + step)) (cells_behind begin cells) from in
        joined-from begin (cells_before (begin + step) (cells_behind begin cells)) (cells_before (begin + size) (cells_behind (begin + step) cells))
        (weaker (λ (c : Kept). (begin ≤ c.0.0) × (nat_lt c.0.0 (begin + step) ≡ true)) (λ (c : Kept). begin ≤ c.0.0) (λ c p. p.0) (cells_before (begin + step) (cells_behind begin cells)) firsts)
      where
        any : (ds : List Kept) → AllByRecursion (λ (c : Kept). Unit {0}) ds
        any [] = tt
        any (d ∷ ds) = (tt, any ds)

        still : (m n : ℕ) → m ≤ n → begin ≤ m → begin ≤ n
        still m n l h = omega (arith, l, h)

    tuples-append : (P : Tuple → Type 0) (ts us : List Tuple) → AllByRecursion P ts → AllByRecursion P us → AllByRecursion P (ts ++ us)
    tuples-append P [] us h k = k
    tuples-append P (t ∷ ts) us h k = (h.0, tuples-append P ts us h.1 k)

    one-window : (low high j : ℕ) (cells : List Kept) → IsStrictlySortedBy cell_cmp (keys_of cells) → window_count size step low ≤ j → AllByRecursion (IsInside low high) (joined_rows size step group aggs high cells j)
    one-window low high j cells s least =
        let over = window_after size step low j positive least in
        let from = window-from (j * step) cells s in
        let firsts = first-all (λ (c : Kept). j * step ≤ c.0.0) (has_ended size high) (joined_cells size step aggs (j * step) cells) from in
        rows-inside low high (ended_cells size high (joined_cells size step aggs (j * step) cells))
        (weaker (λ (c : Kept). (j * step ≤ c.0.0) × (has_ended size high c.0.0 ≡ true)) (λ (c : Kept). (low < c.0.0 + size) × (has_ended size high c.0.0 ≡ true))
        (λ c p. let at = p.0 in (omega (arith, over, at), p.1)) (ended_cells size high (joined_cells size step aggs (j * step) cells)) firsts)

    all-windows : (low high a n : ℕ) (cells : List Kept) → IsStrictlySortedBy cell_cmp (keys_of cells) → window_count size step low ≤ a →
        AllByRecursion (IsInside low high) (flat_map (joined_rows size step group aggs high cells) (range_with_len a n))
    all-windows low high a zero cells s least = tt
    all-windows low high a (suc n) cells s least =
        tuples-append (IsInside low high) (joined_rows size step group aggs high cells a) (flat_map (joined_rows size step group aggs high cells) (range_with_len (a + 1) n)) (one-window low high a cells s least)
        (all-windows low high (a + 1) n cells s (omega (arith, least)))

    ended-inside : (low high : ℕ) (cells : List Kept) → IsStrictlySortedBy cell_cmp (keys_of cells) → AllByRecursion (IsOpen low high) cells → AllByRecursion (IsInside low high) (ended_rows size step group aggs low high cells)
    ended-inside low high cells s h =
        elim (reach size step == size) as (λ x. AllByRecursion (IsInside low high) (cond x (map (cell_row size group aggs) (ended_cells size high cells)) (pane_rows size step group aggs (window_count size step low) high cells))) [
          | true ↦ rows-inside low high (ended_cells size high cells)
              (weaker (λ (c : Kept). IsOpen low high c × (has_ended size high c.0.0 ≡ true)) (λ (c : Kept). (low < c.0.0 + size) × (has_ended size high c.0.0 ≡ true)) (λ c p. (p.0.ends, p.1)) (ended_cells size high cells)
              (first-all (IsOpen low high) (has_ended size high) cells h))
          | false ↦ all-windows low high (window_count size step low) (window_count size step high - window_count size step low) cells s (omega arith)
        ]

    -- ---- a bucket

    module _ (width k : ℕ) (cells : List Kept) (bucket : List Tagged) (wait : can_all_wait size step group aggs (k * width) (all_saved cells) ≡ true) (inside : IsBucket width k bucket) where
      abbrev fed : List Kept
      fed = take_tuples (reach size step) step group aggs cells (at_port 0 bucket)

      abbrev end : ℕ
      end = (k + 1) * width

      later : k * width ≤ end
      later = grind (arith, common_steps)

      sorted : IsStrictlySortedBy cell_cmp (keys_of cells)
      sorted = subst (λ (ks : List (ℕ × ℤ)). IsStrictlySortedBy cell_cmp ks) (sym (keys-saved cells)) (wait-sorted size step group aggs (k * width) (all_saved cells) wait)

      fed-sorted : IsStrictlySortedBy cell_cmp (keys_of fed)
      fed-sorted = tuples-sorted cells (at_port 0 bucket) sorted

      fed-open : AllByRecursion (IsOpen (k * width) end) fed
      fed-open =
          let le = later in
          tuples-open (k * width) end cells (at_port 0 bucket)
          (weaker (IsOpen (k * width) (k * width)) (IsOpen (k * width) end) (λ c p. let early = p.begun in record { at_step = p.at_step; begun = omega (arith, early, le); ends = p.ends; may_be = p.may_be; many = p.many }) cells
          (waiting-open (k * width) None cells wait))
          (at_port-all (λ (t : Tuple). k * width ≤ t.stime) 0 bucket (bucket-from width k bucket inside.inside))
          (at_port-all (λ (t : Tuple). t.stime < end) 0 bucket (bucket-below width k bucket inside.inside))

      -- what is left may wait for the next bucket
      pub wait-next : can_all_wait size step group aggs end (all_saved (left_cells size step end fed)) ≡ true
      wait-next =
          let left = left_cells size step end fed in
          wait-from size step group aggs end None left (all-first size step group aggs end (keys_of left)) (left-sorted end fed fed-sorted)
          (weaker (IsOpen end end) (λ (c : Kept). can_wait size step group aggs end (saved_of c) ≡ true) (λ c p. wait-open end c p) left (left-open (k * width) end fed fed-sorted fed-open))

      -- and the rows of the windows that end lie in the bucket
      pub ended-lie : All (λ (t : Tuple). (k * width ≤ t.stime) × (t.stime < end)) (ended_rows size step group aggs (k * width) end fed)
      ended-lie = All-from_recursion (IsInside (k * width) end) (ended_rows size step group aggs (k * width) end fed) (ended-inside (k * width) end fed fed-sorted fed-open)
