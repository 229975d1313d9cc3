-- The step of a bucket: the rows that it adds, and the cells that it keeps.
use Rattle.std.proofs.Common.{◌≡◌, ℕ, ◌+◌, ◌-◌, ◌*◌, ◌/◌, ◌%◌, ◌<◌, ◌≤◌, ◌==◌, zero, suc, true, false, cond, List, [], ◌∷◌, ◌++◌, map, length, drop, refl, sym, ◌∙◌, ap, arith, Option, All}
use Rattle.std.proofs.lemmas.Grind.{common_steps}
use Rattle.std.proofs.lemmas.Bool.{eqb-true, eqb-false}
use Rattle.std.proofs.lemmas.List.{append-nil}
use Rattle.std.proofs.lemmas.List.Elements.{recursion_from_All, All-weaker}
use Rattle.std.proofs.Math.Nat.{le-div_iff_mul-le}
use Rattle.std.proofs.Math.Seq.{drop-append_seam}
use Rattle.std.specs.List.{AllByRecursion, flat_map}
use Rattle.dpc_lists.specs.Lists.{range_with_len}
use Rattle.dpc_model.specs.Operators.{aggregated, between, window_count, window_rows, group_rows}
use Rattle.dpc_model.specs.Fragments.{at_port}
use Rattle.dpc_model.specs.Engines.{LiesIn, LiesBelow, IsBucket, engine_value, lone_operator, added_output}
use Rattle.dpc_model.specs.declared.tuples.Tuple.{Tuple}
use Rattle.dpc_model.specs.declared.tuples.Tagged.{Tagged}
use Rattle.dpc_model.specs.declared.operators.Agg.{Agg}
use Rattle.dpc_model.specs.declared.operators.OpKind.TheVariants.{Aggregate}
use Rattle.dpc_model.proofs.WindowCausality.{window_before, window_after, window_count-le}
use Rattle.dpc_model.proofs.Buckets.{at_port-append, LiesBelow-next, lies-from, lies-below, at_port-all}
use Rattle.ops_window.specs.Windows.{Cell, reach, window_cells, begun_count, open_cells, aggregate_value, AggregateState, AggregateAfter}
use Rattle.ops_window.specs.Feeding.{take_tuples, ended_cells, kept_cells, cell_row, left_cells, cells_behind, joined_cells, joined_rows, pane_rows, ended_rows}
use Rattle.ops_window.proofs.WindowCells.{cells_of}
use Rattle.ops_window.proofs.CellOrder.{cells_of-each, window_cells-each}
use Rattle.ops_window.proofs.Held.{begun-below, begun-of, count-le-begun, held-first, held-all, held-more}
use Rattle.ops_window.proofs.Ends.{ended_cells-split, kept_cells-split, window_cells-rows, cells_of-rows, flat_map-split, flat_map-same, flat_map-none, between-early, between-late}
use Rattle.ops_window.proofs.Reach.{times-le, whole-steps, some-steps, reach-step, count-reach}
use Rattle.ops_window.proofs.Panes.{behind-split, times-below, window-joined}

-- an engine of an aggregate makes what the aggregate makes
pub aggregate-value : (size step : ℕ) (group : Option ℕ) (aggs : List Agg) (xs : List Tagged) (b : ℕ) →
    engine_value (lone_operator (Aggregate size step group aggs) 1) xs b ≡ aggregate_value size step group aggs xs b
aggregate-value size step group aggs xs b = refl

each-weaker : (P Q : Tuple → Type 0) → ((t : Tuple) → P t → Q t) → (ts : List Tuple) → AllByRecursion P ts → AllByRecursion Q ts
each-weaker P Q w [] h = tt
each-weaker P Q w (t ∷ ts) h = (w t h.0, each-weaker P Q w ts h.1)

module _ (size step : ℕ) (group : Option ℕ) (aggs : List Agg) (some : 0 < size) (positive : 0 < step) (b b' : ℕ) (le : b ≤ b')
    (ts us : List Tuple) (early : AllByRecursion (λ (t : Tuple). t.stime < b) ts) (inside : AllByRecursion (λ (t : Tuple). (b ≤ t.stime) × (t.stime < b')) us) where
  -- how far a cell reaches
  abbrev far : ℕ
  far = reach size step

  -- the numbers: windows ended before, ended after, and begun
  abbrev before : ℕ
  before = window_count size step b

  abbrev after : ℕ
  after = window_count size step b'

  abbrev begun : ℕ
  begun = begun_count step b'

  before-after : before ≤ after
  before-after = window_count-le size step b b' positive le

  after-begun : after ≤ begun
  after-begun = count-le-begun size step b' some positive

  begun-more : begun_count step b ≤ begun
  begun-more =
      (elim (b == 0) as (λ x. (b == 0) ≡ x → cond x 0 ((b - 1) / step + 1) ≤ begun) [
        | true ↦ λ e. omega arith
        | false ↦ λ e. let some = eqb-false b 0 e in begun-of step b' (b - 1) positive (omega (arith, some, le))
      ]) refl

  -- no tuple was seen in a window that begins at b or later
  no_cells : (j : ℕ) → begun_count step b ≤ j → window_cells group aggs (j * step) (between (j * step) (j * step + far) ts) ≡ []
  no_cells j low = rw (between-early (j * step) (j * step + far) b ts (begun-below step b j positive low) early) refl

  opened : open_cells size step group aggs ts b ≡ cells_of far step group aggs ts before (begun - before)
  opened =
      let first = count-le-begun size step b some positive in
      let more = begun-more in
      sym (flat_map-split (λ j. window_cells group aggs (j * step) (between (j * step) (j * step + far) ts)) before (begun_count step b - before) (begun - begun_count step b) (begun - before) (begun_count step b)
      (omega (arith, first, more)) (omega (arith, first))
      ∙ ap (λ (cs : List Cell). open_cells size step group aggs ts b ++ cs)
      (flat_map-none (λ j. window_cells group aggs (j * step) (between (j * step) (j * step + far) ts)) (begun_count step b) (begun - begun_count step b) no_cells)
      ∙ append-nil (open_cells size step group aggs ts b))

  in_windows : AllByRecursion (λ (t : Tuple). (before ≤ window_count far step t.stime) × (t.stime / step + 1 ≤ before + (begun - before))) us
  in_windows =
      let one = before-after in
      let two = after-begun in
      each-weaker (λ (t : Tuple). (b ≤ t.stime) × (t.stime < b')) (λ (t : Tuple). (before ≤ window_count far step t.stime) × (t.stime / step + 1 ≤ before + (begun - before)))
      (λ t h. let high = begun-of step b' t.stime positive h.1 in (count-reach size step b t.stime some positive h.0, omega (arith, one, two, high))) us inside

  abbrev fed : List Cell
  fed = take_tuples far step group aggs (open_cells size step group aggs ts b) us

  abbrev ended : List Cell
  ended = cells_of far step group aggs (ts ++ us) before (after - before)

  fed-is : fed ≡ cells_of far step group aggs (ts ++ us) before (begun - before)
  fed-is =
      ap (λ (cs : List Cell). take_tuples far step group aggs cs us) opened
      ∙ held-all far step group aggs before (begun - before) positive _ (ts ++ us)
      (held-more far step group aggs before (begun - before) positive _ ts us (held-first far step group aggs before (begun - before) positive ts) in_windows)

  parts : fed ≡ ended ++ open_cells size step group aggs (ts ++ us) b'
  parts =
      let one = before-after in
      let two = after-begun in
      fed-is ∙ flat_map-split (λ j. window_cells group aggs (j * step) (between (j * step) (j * step + far) (ts ++ us))) before (after - before) (begun - after) (begun - before) after
      (omega (arith, one, two)) (omega (arith, one))

  ended-all : AllByRecursion (λ (c : Cell). c.0.0 + size ≤ b') ended
  ended-all =
      let one = before-after in
      cells_of-each far step group aggs (ts ++ us) (λ s. s + size ≤ b') before (after - before)
      (λ j low high. window_before size step b' j positive (omega (arith, one, low, high)))

  open-all : AllByRecursion (λ (c : Cell). b' < c.0.0 + size) (open_cells size step group aggs (ts ++ us) b')
  open-all = cells_of-each far step group aggs (ts ++ us) (λ s. b' < s + size) after (begun - after) (λ j low high. window_after size step b' j positive low)

  pub kept-is : left_cells size step b' fed ≡ open_cells size step group aggs (ts ++ us) b'
  kept-is =
      let one = before-after in
      elim (far == size) as (λ x. cond x (kept_cells size b' fed) (cells_behind (after * step) fed) ≡ open_cells size step group aggs (ts ++ us) b') [
        | true ↦
            ap (λ (cs : List Cell). kept_cells size b' cs) parts
            ∙ kept_cells-split size b' ended (open_cells size step group aggs (ts ++ us) b') ended-all open-all
        | false ↦
            ap (λ (cs : List Cell). cells_behind (after * step) cs) parts
            ∙ behind-split (after * step) ended (open_cells size step group aggs (ts ++ us) b')
            (cells_of-each far step group aggs (ts ++ us) (λ s. s < after * step) before (after - before) (λ j low high. times-below step j after positive (omega (arith, one, low, high))))
            (cells_of-each far step group aggs (ts ++ us) (λ s. after * step ≤ s) after (begun - after) (λ j low high. times-le step after j low))
      ]

  -- the rows of windows that ended before stay the same
  old-rows : (j : ℕ) → 0 ≤ j → j < 0 + before → window_rows size group aggs (ts ++ us) (j * step) ≡ window_rows size group aggs ts (j * step)
  old-rows j low high =
      let ends = window_before size step b j positive (omega (arith, high)) in
      ap (λ (vs : List Tuple). group_rows group aggs (j * step + size - 1) vs)
      (between-late (j * step) (j * step + size) b ts us ends (each-weaker (λ (t : Tuple). (b ≤ t.stime) × (t.stime < b')) (λ (t : Tuple). b ≤ t.stime) (λ t h. h.0) us inside))

  -- the rows that the bucket adds are those of the windows that end in it
  new-rows : drop (length (aggregated size step group aggs ts b)) (aggregated size step group aggs (ts ++ us) b')
      ≡ flat_map (λ j. window_rows size group aggs (ts ++ us) (j * step)) (range_with_len before (after - before))
  new-rows =
      let one = before-after in
      let ended-rows = flat_map (λ j. window_rows size group aggs (ts ++ us) (j * step)) (range_with_len before (after - before)) in
      let split : aggregated size step group aggs (ts ++ us) b' ≡ aggregated size step group aggs ts b ++ ended-rows =
      flat_map-split (λ j. window_rows size group aggs (ts ++ us) (j * step)) 0 before (after - before) after before (omega (arith, one)) (omega arith)
      ∙ ap (λ (rows : List Tuple). rows ++ ended-rows) (flat_map-same (λ j. window_rows size group aggs (ts ++ us) (j * step)) (λ j. window_rows size group aggs ts (j * step)) 0 before old-rows) in
      ap (λ (rows : List Tuple). drop (length (aggregated size step group aggs ts b)) rows) split
      ∙ drop-append_seam (aggregated size step group aggs ts b) ended-rows

  -- where a cell is a window
  window-rows : far ≡ size → map (cell_row size group aggs) (ended_cells size b' fed) ≡ flat_map (λ j. window_rows size group aggs (ts ++ us) (j * step)) (range_with_len before (after - before))
  window-rows e =
      ap (λ (cs : List Cell). map (cell_row size group aggs) cs)
      (ap (λ (cs : List Cell). ended_cells size b' cs) parts ∙ ended_cells-split size b' ended (open_cells size step group aggs (ts ++ us) b') ended-all open-all)
      ∙ ap (λ (s : ℕ). map (cell_row size group aggs) (cells_of s step group aggs (ts ++ us) before (after - before))) e
      ∙ cells_of-rows size step group aggs (ts ++ us) before (after - before)

  -- where it is a pane
  module _ (whole : size % step ≡ 0) (pane : far ≡ step) where
    panes-begun : (j : ℕ) → j < after → j + size / step ≤ begun
    panes-begun j high =
        let ends = window_before size step b' j positive high in
        let size-is = whole-steps size step whole in
        let many = some-steps size step some whole in
        let end : (j + size / step) * step ≤ b' = omega (arith, ends, size-is) in
        let last : j + size / step ≤ (b' - 1) / step + 1 = last-pane (j + size / step) end (omega (arith, many)) in
        let more = begun-of step b' (b' - 1) positive (omega (arith, ends)) in
        omega (arith, last, more)
      where
        last-pane : (n : ℕ) → n * step ≤ b' → 0 < n → n ≤ (b' - 1) / step + 1
        last-pane zero h k = omega arith
        last-pane (suc n) h k =
            let few : n ≤ (b' - 1) / step = (le-div_iff_mul-le {k = step} {x = n} {y = b' - 1} positive).1 (omega (arith, h)) in
            omega (arith, few)

    window-joins : (j : ℕ) → before ≤ j → j < before + (after - before) →
        joined_rows size step group aggs b' fed j ≡ window_rows size group aggs (ts ++ us) (j * step)
    window-joins j low high =
        let one = before-after in
        let ended-one : j < after = omega (arith, one, low, high) in
        let all = panes-begun j ended-one in
        let size-is = whole-steps size step whole in
        let own = window_cells group aggs (j * step) (between (j * step) (j * step + size) (ts ++ us)) in
        let others = size / step - 1 in
        let many = some-steps size step some whole in
        let panes : size ≡ (1 + others) * step = size-is ∙ ap (λ (n : ℕ). n * step) (omega (arith, many)) in
        let cells : joined_cells size step aggs (j * step) fed ≡ own =
        ap (λ (cs : List Cell). joined_cells size step aggs (j * step) cs) (fed-is ∙ ap (λ (s : ℕ). cells_of s step group aggs (ts ++ us) before (begun - before)) pane)
        ∙ ap (λ (s : ℕ). joined_cells s step aggs (j * step) (cells_of step step group aggs (ts ++ us) before (begun - before))) panes
        ∙ window-joined step group aggs (ts ++ us) positive before (begun - before) j others low (omega (arith, all, many))
        ∙ ap (λ (s : ℕ). window_cells group aggs (j * step) (between (j * step) (j * step + s) (ts ++ us))) (sym panes) in
        let ends = window_before size step b' j positive ended-one in
        let each : AllByRecursion (λ (c : Cell). c.0.0 + size ≤ b') own =
        window_cells-each (λ s. s + size ≤ b') group aggs (j * step) (between (j * step) (j * step + size) (ts ++ us)) ends in
        ap (λ (cs : List Cell). map (cell_row size group aggs) (ended_cells size b' cs)) (cells ∙ sym (append-nil own))
        ∙ ap (λ (cs : List Cell). map (cell_row size group aggs) cs) (ended_cells-split size b' own [] each tt)
        ∙ window_cells-rows size group aggs (j * step) (between (j * step) (j * step + size) (ts ++ us))

    joins-rows : pane_rows size step group aggs before b' fed ≡ flat_map (λ j. window_rows size group aggs (ts ++ us) (j * step)) (range_with_len before (after - before))
    joins-rows = flat_map-same (joined_rows size step group aggs b' fed) (λ j. window_rows size group aggs (ts ++ us) (j * step)) before (after - before) window-joins

  pub rows-are : ended_rows size step group aggs b b' fed ≡ drop (length (aggregated size step group aggs ts b)) (aggregated size step group aggs (ts ++ us) b')
  rows-are =
      (elim (far == size) as (λ x. (far == size) ≡ x → cond x (map (cell_row size group aggs) (ended_cells size b' fed)) (pane_rows size step group aggs before b' fed)
      ≡ flat_map (λ j. window_rows size group aggs (ts ++ us) (j * step)) (range_with_len before (after - before))) [
        | true ↦ λ e. window-rows (eqb-true far size e)
        | false ↦ λ e. let panes = reach-step size step e in joins-rows panes.0 panes.1
      ]) refl
      ∙ sym new-rows

-- ---- the step of an aggregate

module _ (a : AggregateState) (k : ℕ) (before bucket : List Tagged) (some : 0 < a.size) (positive : 0 < a.step) (held : AggregateAfter a before k) (fits : IsBucket a.width k bucket) where
  abbrev begin : ℕ
  begin = k * a.width

  abbrev end : ℕ
  end = (k + 1) * a.width

  abbrev cells-fed : List Cell
  cells-fed = take_tuples (reach a.size a.step) a.step a.group a.aggs a.cells (at_port 0 bucket)

  later : begin ≤ end
  later = grind (arith, common_steps)

  early : AllByRecursion (λ (t : Tuple). t.stime < begin) (at_port 0 before)
  early = at_port-all (λ (t : Tuple). t.stime < begin) 0 before (recursion_from_All (LiesBelow begin) before held.below)

  inputs : AllByRecursion (λ (t : Tuple). (begin ≤ t.stime) × (t.stime < end)) (at_port 0 bucket)
  inputs = at_port-all (λ (t : Tuple). (begin ≤ t.stime) × (t.stime < end)) 0 bucket (recursion_from_All (λ (x : Tagged). (begin ≤ x.tuple.stime) × (x.tuple.stime < end)) bucket
      (All-weaker (LiesIn a.width k) (λ (x : Tagged). (begin ≤ x.tuple.stime) × (x.tuple.stime < end)) (λ x h. (lies-from a.width k x h, lies-below a.width k x h)) bucket fits.inside))

  from_open : cells-fed ≡ take_tuples (reach a.size a.step) a.step a.group a.aggs (open_cells a.size a.step a.group a.aggs (at_port 0 before) begin) (at_port 0 bucket)
  from_open = ap (λ (cs : List Cell). take_tuples (reach a.size a.step) a.step a.group a.aggs cs (at_port 0 bucket)) held.cells

  -- the rows are what the bucket adds
  pub step-answer : ended_rows a.size a.step a.group a.aggs begin end cells-fed ≡ added_output (aggregate_value a.size a.step a.group a.aggs) a.width before bucket k
  step-answer =
      ap (λ (cs : List Cell). ended_rows a.size a.step a.group a.aggs begin end cs) from_open
      ∙ rows-are a.size a.step a.group a.aggs some positive begin end later (at_port 0 before) (at_port 0 bucket) early inputs
      ∙ ap (λ (ts : List Tuple). drop (length (aggregated a.size a.step a.group a.aggs (at_port 0 before) begin)) (aggregated a.size a.step a.group a.aggs ts end)) (sym (at_port-append 0 before bucket))

  -- the cells that stay are those that open windows need
  pub step-cells : left_cells a.size a.step end cells-fed ≡ open_cells a.size a.step a.group a.aggs (at_port 0 (before ++ bucket)) end
  step-cells =
      ap (λ (cs : List Cell). left_cells a.size a.step end cs) from_open
      ∙ kept-is a.size a.step a.group a.aggs some positive begin end later (at_port 0 before) (at_port 0 bucket) early inputs
      ∙ ap (λ (ts : List Tuple). open_cells a.size a.step a.group a.aggs ts end) (sym (at_port-append 0 before bucket))

  pub step-below : All (LiesBelow end) (before ++ bucket)
  step-below = LiesBelow-next a.width k before bucket held.below fits.inside
