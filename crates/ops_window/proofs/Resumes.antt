-- Cells that pass the test of what an aggregate may hold: they are in order, and an aggregate's own pass.
use Rattle.std.proofs.Common.{◌≡◌, ℕ, zero, suc, ◌+◌, ◌-◌, ◌*◌, ◌/◌, ◌%◌, ◌<◌, ◌≤◌, true, false, cond, ◌==◌, ◌&&◌, List, [], ◌∷◌, ◌++◌, map, length, take, get_or, refl, sym, ◌∙◌, ap, arith, ℤ, Option, Some, None, nat_lt}
use Rattle.std.proofs.lemmas.Grind.{common_steps}
use Rattle.std.proofs.lemmas.Bool.{and_parts, lt-ltb}
use Rattle.std.proofs.lemmas.List.{map-append, take_more, length-map}
use Rattle.std.proofs.Math.Nat.{mul-mod_left}
use Rattle.std.proofs.lemmas.Nat.{div-add-mod'}
use Rattle.std.specs.declared.cmp.Ordering.{Ordering}
use Rattle.std.specs.declared.cmp.Ordering.TheVariants.{Less, Equal, Greater}
use Rattle.std.specs.Ordering.{is_lt, ordering_reverse}
use Rattle.std.specs.List.{AllByRecursion}
use Rattle.std.specs.List.Sorted.{IsStrictlySortedBy}
use Rattle.std.specs.BTreeMap.{insert_entry}
use Rattle.std.specs.Map.{keys_of}
use Rattle.dpc_model.specs.Fragments.{at_port}
use Rattle.dpc_model.proofs.WindowCausality.{window_after}
use Rattle.dpc_model.specs.Operators.{window_count, between, distinct_values}
use Rattle.dpc_model.specs.declared.tuples.Tuple.{Tuple}
use Rattle.dpc_model.specs.declared.tuples.Tagged.{Tagged}
use Rattle.dpc_model.specs.declared.operators.Agg.{Agg}
use Rattle.ops_window.specs.Windows.{Cell as Kept, exact_total, group_of, in_group, window_cells, begun_count, open_cells, reach, AggregateState, AggregateAfter}
use Rattle.ops_window.specs.Feeding.{cell_cmp, totals_at, join_cell}
use Rattle.ops_window.specs.Saving.{kept_of, saved_of, all_kept, all_saved, can_be_group, can_wait, can_wait_from, can_all_wait, stands_behind}
use Rattle.ops_window.specs.declared.saved.Cell.{Cell}
use Rattle.ops_window.proofs.Steps.{cell_cmp_total}
use Rattle.ops_window.proofs.WindowCells.{insert_value-all, cells_of}
use Rattle.ops_window.proofs.CellOrder.{cells_of-sorted}

-- ---- order

less-from : (o : Ordering) → is_lt o ≡ true → o ≡ Less
less-from Less e = refl
less-from Equal e = absurd (cc)
less-from Greater e = absurd (cc)

-- the keys of saved cells
abbrev pub keys : List Cell → List (ℕ × ℤ)
keys cells = keys_of (all_kept cells)

all-less : (j : ℕ × ℤ) (ks : List (ℕ × ℤ)) → AllByRecursion (λ k. stands_behind (Some j) k ≡ true) ks → AllByRecursion (λ k. cell_cmp j k ≡ Less) ks
all-less j [] h = tt
all-less j (k ∷ ks) h = (less-from (cell_cmp j k) h.0, all-less j ks h.1)

further : (last : Option (ℕ × ℤ)) (j : ℕ × ℤ) (ks : List (ℕ × ℤ)) → stands_behind last j ≡ true → AllByRecursion (λ k. cell_cmp j k ≡ Less) ks → AllByRecursion (λ k. stands_behind last k ≡ true) ks
further last j [] e h = tt
further None j (k ∷ ks) e h = (refl, further None j ks e h.1)
further (Some l) j (k ∷ ks) e h = (ap is_lt (cell_cmp_total.trans l j k (less-from (cell_cmp l j) e) h.0), further (Some l) j ks e h.1)

module _ (size step : ℕ) (group : Option ℕ) (aggs : List Agg) (b : ℕ) where
  -- cells that pass are in order, behind the one before them
  wait-order : (last : Option (ℕ × ℤ)) (cells : List Cell) → can_wait_from size step group aggs b last cells ≡ true →
      AllByRecursion (λ k. stands_behind last k ≡ true) (keys cells) × IsStrictlySortedBy cell_cmp (keys cells)
  unfolding IsStrictlySortedBy
  wait-order last [] e = (tt, tt)
  wait-order last (c ∷ cells) e =
      let key : ℕ × ℤ = (c.begin, c.group) in
      let parts = and_parts (stands_behind last key && can_wait size step group aggs b c) (can_wait_from size step group aggs b (Some key) cells) e in
      let here = and_parts (stands_behind last key) (can_wait size step group aggs b c) parts.0 in
      let rest = wait-order (Some key) cells parts.1 in
      let less = all-less key (keys cells) rest.0 in
      ((here.0, further last key (keys cells) here.0 less), (less, rest.1))

  pub wait-sorted : (cells : List Cell) → can_all_wait size step group aggs b cells ≡ true → IsStrictlySortedBy cell_cmp (keys cells)
  wait-sorted cells e = (wait-order None cells e).1

  -- cells in order that can each wait pass
  pub wait-from : (last : Option (ℕ × ℤ)) (cells : List Kept) → AllByRecursion (λ k. stands_behind last k ≡ true) (keys_of cells) → IsStrictlySortedBy cell_cmp (keys_of cells) →
      AllByRecursion (λ (c : Kept). can_wait size step group aggs b (saved_of c) ≡ true) cells → can_wait_from size step group aggs b last (all_saved cells) ≡ true
  unfolding IsStrictlySortedBy
  wait-from last [] a s w = refl
  wait-from last (c ∷ cells) a s w = rw (a.0, w.0) (wait-from (Some c.0) cells (behind (keys_of cells) s.0) s.1 w.1)
    where
      behind : (ks : List (ℕ × ℤ)) → AllByRecursion (λ k. cell_cmp c.0 k ≡ Less) ks → AllByRecursion (λ k. stands_behind (Some c.0) k ≡ true) ks
      behind [] h = tt
      behind (k ∷ ks) h = (ap is_lt h.0, behind ks h.1)

  pub all-first : (ks : List (ℕ × ℤ)) → AllByRecursion (λ k. stands_behind None k ≡ true) ks
  all-first [] = tt
  all-first (k ∷ ks) = (refl, all-first ks)

-- ---- cells put behind those before them

after-all : (k : ℕ × ℤ) (es : List Kept) → AllByRecursion (λ j. cell_cmp j k ≡ Less) (keys_of es) → totals_at k es ≡ None
after-all k [] h = refl
after-all k (e ∷ es) h =
    let more : cell_cmp k e.0 ≡ Greater = cell_cmp_total.antisymm k e.0 ∙ ap ordering_reverse h.0 in
    rw more (after-all k es h.1)

put-last : (k : ℕ × ℤ) (v : List ℤ) (es : List Kept) → AllByRecursion (λ j. cell_cmp j k ≡ Less) (keys_of es) → insert_entry cell_cmp es k v ≡ es ++ (k, v) ∷ []
put-last k v [] h = refl
put-last k v (e ∷ es) h =
    let more : cell_cmp k e.0 ≡ Greater = cell_cmp_total.antisymm k e.0 ∙ ap ordering_reverse h.0 in
    rw more (ap (λ (cs : List Kept). e ∷ cs) (put-last k v es h.1))

join-last : (aggs : List Agg) (k : ℕ × ℤ) (v : List ℤ) (es : List Kept) → AllByRecursion (λ j. cell_cmp j k ≡ Less) (keys_of es) → join_cell aggs k.0 es (k, v) ≡ es ++ (k, v) ∷ []
join-last aggs k v es h = let none = after-all k es h in rw none (put-last k v es h)

all-at : (P : ℕ × ℤ → Type 0) (i : ℕ) (cells : List Cell) (c : Cell) → i < length cells → c ≡ get_or cells i c → AllByRecursion P (keys cells) → P (c.begin, c.group)
all-at P i [] c h e a = absurd (omega (arith, h))
all-at P zero (x ∷ cells) c h e a = rw e a.0
all-at P (suc i) (x ∷ cells) c h e a = all-at P i cells c (omega (arith, h)) e a.1

-- those before a cell are below it
before-it : (i : ℕ) (cells : List Cell) (c : Cell) → i < length cells → c ≡ get_or cells i c → IsStrictlySortedBy cell_cmp (keys cells) →
    AllByRecursion (λ j. cell_cmp j (c.begin, c.group) ≡ Less) (keys (take i cells))
unfolding IsStrictlySortedBy
before-it i [] c h e s = absurd (omega (arith, h))
before-it zero (x ∷ cells) c h e s = tt
before-it (suc i) (x ∷ cells) c h e s =
    (all-at (λ k. cell_cmp (x.begin, x.group) k ≡ Less) i cells c (omega (arith, h)) e s.0, before-it i cells c (omega (arith, h)) e s.1)

pub put-more : (aggs : List Agg) (i : ℕ) (cells : List Cell) (c : Cell) (old new : List Kept) → i < length cells → c ≡ get_or cells i c → IsStrictlySortedBy cell_cmp (keys cells) →
    new ≡ join_cell aggs c.begin old ((c.begin, c.group), c.totals) → old ≡ all_kept (take i cells) → new ≡ all_kept (take (i + 1) cells)
put-more aggs i cells c old new h e s put done =
    let below = before-it i cells c h e s in
    let last : join_cell aggs c.begin (all_kept (take i cells)) ((c.begin, c.group), c.totals) ≡ all_kept (take i cells) ++ kept_of c ∷ [] =
    join-last aggs (c.begin, c.group) c.totals (all_kept (take i cells)) below in
    let more : take (i + 1) cells ≡ take i cells ++ c ∷ [] = take_more cells i c h ∙ ap (λ (x : Cell). take i cells ++ x ∷ []) (sym e) in
    put ∙ rw (done, last, more) (sym (map-append kept_of (take i cells) (c ∷ [])))

-- what was saved of cells is what they are
pub kept-saved : (cells : List Kept) → all_kept (all_saved cells) ≡ cells
kept-saved [] = refl
kept-saved (c ∷ cells) = ap (λ (cs : List Kept). c ∷ cs) (kept-saved cells)

-- and what is kept of saved ones is saved as it was
pub saved-kept : (cells : List Cell) → all_saved (all_kept cells) ≡ cells
saved-kept [] = refl
saved-kept (c ∷ cells) = ap (λ (cs : List Cell). c ∷ cs) (saved-kept cells)

-- ---- an aggregate's own cells

distinct-all : (P : ℤ → Type 0) (zs : List ℤ) → AllByRecursion P zs → AllByRecursion P (distinct_values zs)
distinct-all P [] h = tt
distinct-all P (z ∷ zs) h = insert_value-all P z (distinct_values zs) h.0 (distinct-all P zs h.1)

groups-are : (group : Option ℕ) (us : List Tuple) → AllByRecursion (λ z. can_be_group group z ≡ true) (map (group_of group) us)
groups-are group [] = tt
groups-are None (u ∷ us) = (refl, groups-are None us)
groups-are (Some n) (u ∷ us) = (refl, groups-are (Some n) us)

length-all : (f : Agg → ℤ) (aggs : List Agg) → (length (map f aggs) == length aggs) ≡ true
length-all f aggs = let same : length (map f aggs) ≡ length aggs = length-map aggs f in rw same (grind (arith, common_steps))

begun-inside : (step b j : ℕ) → 0 < step → j < begun_count step b → j * step < b
begun-inside step b j positive h =
    (elim (b == 0) as (λ c. (b == 0) ≡ c → j < cond c 0 ((b - 1) / step + 1) → j * step < b) [
      | true ↦ λ e l. absurd (omega (arith, l))
      | false ↦ λ e l. inside e l
    ]) refl h
  where
    inside : (b == 0) ≡ false → j < (b - 1) / step + 1 → j * step < b
    inside e l =
        let some : 0 < b = grind (arith, common_steps) in
        let most : j * step ≤ (b - 1) / step * step = grind (arith, common_steps) in
        let parts = div-add-mod' (b - 1) step in
        omega (arith, some, most, parts)

module _ (size step : ℕ) (group : Option ℕ) (aggs : List Agg) (b : ℕ) (positive : 0 < step) where
  -- the cell of a group that may be, in a pane or window that is needed
  one-waits : (j : ℕ) (z : ℤ) (f : Agg → ℤ) → window_count size step b ≤ j → j * step < b → can_be_group group z ≡ true →
      can_wait size step group aggs b (record { begin = j * step; group = z; totals = map f aggs }) ≡ true
  one-waits j z f low high g =
      let whole : (j * step % step == 0) ≡ true = rw (mul-mod_left j step) refl in
      let early : nat_lt (j * step) b ≡ true = lt-ltb (j * step) b high in
      let late : nat_lt b (j * step + size) ≡ true = lt-ltb b (j * step + size) (window_after size step b j positive low) in
      let many = length-all f aggs in
      rw (whole, early, late, g, many) refl

  group-waits : (j : ℕ) (us : List Tuple) (zs : List ℤ) → window_count size step b ≤ j → j * step < b → AllByRecursion (λ z. can_be_group group z ≡ true) zs →
      AllByRecursion (λ (c : Kept). can_wait size step group aggs b (saved_of c) ≡ true) (map (λ z. ((j * step, z), map (exact_total (in_group group z us)) aggs)) zs)
  group-waits j us [] low high g = tt
  group-waits j us (z ∷ zs) low high g = (one-waits j z (exact_total (in_group group z us)) low high g.0, group-waits j us zs low high g.1)

  both-wait : (xs ys : List Kept) → AllByRecursion (λ (c : Kept). can_wait size step group aggs b (saved_of c) ≡ true) xs → AllByRecursion (λ (c : Kept). can_wait size step group aggs b (saved_of c) ≡ true) ys →
      AllByRecursion (λ (c : Kept). can_wait size step group aggs b (saved_of c) ≡ true) (xs ++ ys)
  both-wait [] ys h k = k
  both-wait (x ∷ xs) ys h k = (h.0, both-wait xs ys h.1 k)

  windows-wait : (width : ℕ) (ts : List Tuple) (a n : ℕ) → window_count size step b ≤ a → a + n ≤ begun_count step b →
      AllByRecursion (λ (c : Kept). can_wait size step group aggs b (saved_of c) ≡ true) (cells_of width step group aggs ts a n)
  windows-wait width ts a zero low high = tt
  windows-wait width ts a (suc n) low high =
      let us = between (a * step) (a * step + width) ts in
      both-wait (window_cells group aggs (a * step) us) (cells_of width step group aggs ts (a + 1) n)
      (group-waits a us (distinct_values (map (group_of group) us)) low (begun-inside step b a positive (omega (arith, high)))
      (distinct-all (λ z. can_be_group group z ≡ true) (map (group_of group) us) (groups-are group us)))
      (windows-wait width ts (a + 1) n (omega (arith, low)) (omega (arith, high)))

  open-wait : (ts : List Tuple) (n : ℕ) → begun_count step b - window_count size step b ≡ n →
      AllByRecursion (λ (c : Kept). can_wait size step group aggs b (saved_of c) ≡ true) (cells_of (reach size step) step group aggs ts (window_count size step b) n)
  open-wait ts zero e = tt
  open-wait ts (suc n) e = windows-wait (reach size step) ts (window_count size step b) (suc n) (omega arith) (omega (arith, e))

  pub wait-open : (ts : List Tuple) → can_all_wait size step group aggs b (all_saved (open_cells size step group aggs ts b)) ≡ true
  wait-open ts =
      let n = begun_count step b - window_count size step b in
      let cells = cells_of (reach size step) step group aggs ts (window_count size step b) n in
      wait-from size step group aggs b None cells (all-first size step group aggs b (keys_of cells))
      (cells_of-sorted (reach size step) step group aggs ts (window_count size step b) n positive) (open-wait ts n refl)

-- what an aggregate keeps passes
pub wait-after : (a : AggregateState) (xs : List Tagged) (k : ℕ) → 0 < a.step → AggregateAfter a xs k →
    can_all_wait a.size a.step a.group a.aggs (a.next * a.width) (all_saved a.cells) ≡ true
wait-after a xs k positive after = rw (after.next, after.cells) (wait-open a.size a.step a.group a.aggs (k * a.width) positive (at_port 0 xs))
