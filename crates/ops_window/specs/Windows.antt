-- An aggregate over windows as an engine over buckets, and the cells that it keeps.
use Rattle.std.specs.Prelude.{◌≡◌, ℕ, ◌+◌, ◌-◌, ◌*◌, ◌/◌, ◌%◌, ◌==◌, ℤ, pos, Bool, false, List, [], ◌++◌, map, length, filter, flat_map, Option, Some, None, All, if◌then◌else◌}
use Rattle.std.specs.Ordering.{int_eq}
use Rattle.dpc_lists.specs.Lists.{range_with_len}
use Rattle.dpc_model.specs.Values.{column}
use Rattle.dpc_model.specs.Operators.{aggregated, between, window_count, distinct_values, sum_of, least_value, greatest_value}
use Rattle.dpc_model.specs.Fragments.{at_port}
use Rattle.dpc_model.specs.Engines.{Value, LiesBelow, engine_value, lone_operator, added_output}
use Rattle.dpc_model.specs.declared.operators.OpKind.TheVariants as kind
use Rattle.dpc_model.specs.declared.operators.OpSpec.{OpSpec}
use Rattle.dpc_model.specs.declared.tuples.Tuple.{Tuple}
use Rattle.dpc_model.specs.declared.tuples.Tagged.{Tagged}
use Rattle.dpc_model.specs.declared.operators.Agg.{Agg}
use Rattle.dpc_model.specs.declared.operators.Agg.TheVariants.{Count, Sum, Min, Max}

-- an aggregate gives the rows of the windows over the tuples of port 0
abbrev pub aggregate_value : ℕ → ℕ → Option ℕ → List Agg → Value
aggregate_value size step group aggs xs b = aggregated size step group aggs (at_port 0 xs) b

-- how far a cell reaches: over one step, a pane, where a window is made of whole steps, and else over a window
abbrev pub reach : ℕ → ℕ → ℕ
reach size step = if size % step == 0 then step else size

-- a cell: the begin of its pane or window and its group, and a total for each aggregate
abbrev pub Cell : Type 0
Cell = (ℕ × ℤ) × List ℤ

-- the cells of the pane or window that begins at a time, by its groups and their totals
abbrev pub pane_cells : ℕ → List (ℤ × List ℤ) → List Cell
pane_cells begin groups = map (λ g. ((begin, g.0), g.1)) groups

-- the cells of panes or windows, by the begin and the groups of each, one after the other
abbrev pub cells_of_panes : List (ℕ × List (ℤ × List ℤ)) → List Cell
cells_of_panes panes = flat_map (λ p. pane_cells p.0 p.1) panes

-- the cells that a walk has left: those of the groups left of the pane in which it stands, if any, and those of the later panes
abbrev pub cells_left : ℕ → Option (List (ℤ × List ℤ)) → List (ℕ × List (ℤ × List ℤ)) → List Cell
cells_left begin None panes = cells_of_panes panes
cells_left begin (Some groups) panes = pane_cells begin groups ++ cells_of_panes panes

-- a tuple's group, 0 where there is no group column
abbrev pub group_of : Option ℕ → Tuple → ℤ
group_of None t = pos 0
group_of (Some c) t = column t c

-- an aggregate's total over tuples, before a sum is clamped
abbrev pub exact_total : List Tuple → Agg → ℤ
exact_total ts Count = pos (length ts)
exact_total ts (Sum c) = sum_of (map (λ t. column t c) ts)
exact_total ts (Min c) = least_value (map (λ t. column t c) ts)
exact_total ts (Max c) = greatest_value (map (λ t. column t c) ts)

-- the tuples of a group
abbrev pub in_group : Option ℕ → ℤ → List Tuple → List Tuple
in_group group z ts = filter (λ t. int_eq (group_of group t) z) ts

-- the cells of the tuples of a pane or window: one for each group that occurs, in order
abbrev pub window_cells : Option ℕ → List Agg → ℕ → List Tuple → List Cell
window_cells group aggs start ts =
    map (λ z. ((start, z), map (exact_total (in_group group z ts)) aggs)) (distinct_values (map (group_of group) ts))

-- how many windows, one every step, begin below b
abbrev pub begun_count : ℕ → ℕ → ℕ
begun_count step b = if b == 0 then 0 else (b - 1) / step + 1

-- the cells that windows open at b need, in order of begin and group: those that begin below b, from the
-- begin of the first window on that ends above b
abbrev pub open_cells : ℕ → ℕ → Option ℕ → List Agg → List Tuple → ℕ → List Cell
open_cells size step group aggs ts b =
    flat_map (λ j. window_cells group aggs (j * step) (between (j * step) (j * step + reach size step) ts))
    (range_with_len (window_count size step b) (begun_count step b - window_count size step b))

-- what contracts see of an aggregate: the size of the windows, the step from one to the next, the
-- group's column, the aggregates, the width of a bucket, the cells that open windows need, the next
-- bucket, and whether it wanted memory
pub record AggregateState : Type 0 where
  pub size : ℕ
  pub step : ℕ
  pub group : Option ℕ
  pub aggs : List Agg
  pub width : ℕ
  pub cells : List Cell
  pub next : ℕ
  pub spent : Bool

-- an aggregate before bucket 0
abbrev pub new_aggregate : ℕ → ℕ → Option ℕ → List Agg → ℕ → AggregateState
new_aggregate size step group aggs width =
    record { size = size; step = step; group = group; aggs = aggs; width = width; cells = []; next = 0; spent = false }

-- it took these inputs, those below bucket k, and keeps exactly the totals of each group and each pane
-- of an open window, or open window, in which a tuple was seen
pub record AggregateAfter (a : AggregateState) (xs : List Tagged) (k : ℕ) : Type 0 where
  pub next : a.next ≡ k
  pub below : All (LiesBelow (k * a.width)) xs
  pub cells : a.cells ≡ open_cells a.size a.step a.group a.aggs (at_port 0 xs) (k * a.width)

-- itself as the operators of an engine
abbrev pub aggregate_operators : AggregateState → List OpSpec
aggregate_operators a = lone_operator (kind.Aggregate a.size a.step a.group a.aggs) 1

-- the rows that bucket k adds, where it took the inputs before it
abbrev pub aggregate_added : AggregateState → List Tagged → List Tagged → ℕ → List Tuple
aggregate_added a before bucket k = added_output (engine_value (aggregate_operators a)) a.width before bucket k
