-- The operators of a fragment as one engine over buckets.
use Rattle.std.specs.Prelude.{◌≡◌, ℕ, ◌*◌, ◌<◌, Bool, false, Option, Some, None, List, [], map, length, take, All, slice_index_or}
use Rattle.dpc_model.specs.Streams.{IsOrdered}
use Rattle.dpc_model.specs.Engines.{LiesBelow, lone_operator, engine_value, added_output}
use Rattle.dpc_model.specs.Fragments.{serial, read_wire, outputs_after}
use Rattle.dpc_model.specs.declared.tuples.Tuple.{Tuple}
use Rattle.dpc_model.specs.declared.tuples.Tagged.{Tagged}
use Rattle.dpc_model.specs.declared.operators.Wire.{Wire}
use Rattle.dpc_model.specs.declared.operators.OpSpec.{OpSpec}
use Rattle.dpc_model.specs.declared.operators.OpKind.{OpKind}
use Rattle.dpc_model.specs.declared.operators.OpKind.TheVariants as kind
use Rattle.ops_stateless.specs.FilterOp.{new_filter}
use Rattle.ops_stateless.specs.MapOps.{new_map}
use Rattle.ops_stateless.specs.Unions.{new_union, UnionAfter}
use Rattle.ops_join.specs.Joins.{new_join, JoinAfter}
use Rattle.ops_window.specs.Windows.{new_aggregate, AggregateAfter}
use Rattle.fragment_mill.specs.declared.operator.Operator.{Operator}
use Rattle.fragment_mill.specs.declared.operator.Operator.TheVariants.{Filter, Map, Union, Join, Aggregate}
use Rattle.fragment_mill.specs.declared.mill.Stage.{Stage}

-- ---- one operator

-- what an operator does
abbrev pub kind_of : Operator → OpKind
kind_of (Filter f) = kind.Filter f.expr
kind_of (Map m) = kind.Map m.exprs
kind_of (Union u) = kind.Union
kind_of (Join j) = kind.Join j.within j.keys
kind_of (Aggregate a) = kind.Aggregate a.size a.step a.group a.aggs

-- how many ports it reads
abbrev pub port_count : Operator → ℕ
port_count (Filter f) = 1
port_count (Map m) = 1
port_count (Union u) = u.ports
port_count (Join j) = 2
port_count (Aggregate a) = 1

-- itself as the operators of an engine
abbrev pub operators_of : Operator → List OpSpec
operators_of o = lone_operator (kind_of o) (port_count o)

-- the width of its buckets. A filter and a map take any inputs
abbrev pub width_of : Operator → Option ℕ
width_of (Filter f) = None
width_of (Map m) = None
width_of (Union u) = Some u.width
width_of (Join j) = Some j.width
width_of (Aggregate a) = Some a.width

abbrev pub next_of : Operator → ℕ
next_of (Filter f) = f.next
next_of (Map m) = m.next
next_of (Union u) = u.next
next_of (Join j) = j.next
next_of (Aggregate a) = a.next

abbrev pub spent_of : Operator → Bool
spent_of (Filter f) = f.spent
spent_of (Map m) = m.spent
spent_of (Union u) = u.spent
spent_of (Join j) = j.spent
spent_of (Aggregate a) = a.spent

-- an operator of so many inputs before bucket 0
abbrev pub new_operator : ℕ → ℕ → OpKind → Operator
new_operator width inputs (kind.Filter e) = Filter (new_filter e)
new_operator width inputs (kind.Map es) = Map (new_map es)
new_operator width inputs kind.Union = Union (new_union inputs width)
new_operator width inputs (kind.Join within keys) = Join (new_join within keys width)
new_operator width inputs (kind.Aggregate size step group aggs) = Aggregate (new_aggregate size step group aggs width)

-- it took these inputs, those below bucket k
abbrev pub OperatorAfter : Operator → List Tagged → ℕ → Type 0
OperatorAfter (Filter f) xs k = f.next ≡ k
OperatorAfter (Map m) xs k = m.next ≡ k
OperatorAfter (Union u) xs k = UnionAfter u xs k
OperatorAfter (Join j) xs k = JoinAfter j xs k
OperatorAfter (Aggregate a) xs k = AggregateAfter a xs k

-- ---- the operators of a fragment

-- what contracts see of a mill: the width of a bucket, each operator with what it reads, the next
-- bucket, and whether it wanted memory
pub record MillState : Type 0 where
  pub width : ℕ
  pub stages : List Stage
  pub next : ℕ
  pub spent : Bool

-- the operator of a stage, without a name
abbrev pub spec_of : Stage → OpSpec
spec_of s = record { name = []; kind = kind_of s.operator; reads = s.reads }

abbrev pub specs_of : List Stage → List OpSpec
specs_of stages = map spec_of stages

-- an operator of a plan as a stage, before bucket 0
abbrev pub new_stage : ℕ → OpSpec → Stage
new_stage width op = record { reads = op.reads; operator = new_operator width (length op.reads) op.kind }

-- a mill of these operators before bucket 0
abbrev pub new_mill : ℕ → List OpSpec → MillState
new_mill width ops = record { width = width; stages = map (new_stage width) ops; next = 0; spent = false }

-- what these wires read, in serial order, where the operators before gave these outputs
abbrev pub inputs_of : List Tagged → List (List Tuple) → List Wire → List Tagged
inputs_of xs outputs reads = serial (map (read_wire xs outputs) reads)

-- each stage took what the ports and the operators before it gave up to bucket k
abbrev pub StagesAfter : ℕ → List Stage → List Tagged → ℕ → Type 0
StagesAfter width stages xs k =
    (i : ℕ) (d : Stage) → i < length stages →
    OperatorAfter (slice_index_or stages i d).operator (inputs_of xs (outputs_after [] (take i (specs_of stages)) xs (k * width)) (slice_index_or stages i d).reads) k

-- it took these inputs, those below bucket k, in order of time
pub record MillAfter (m : MillState) (xs : List Tagged) (k : ℕ) : Type 0 where
  pub next : m.next ≡ k
  pub below : All (LiesBelow (k * m.width)) xs
  pub ordered : IsOrdered (λ (x : Tagged). x.tuple.stime) xs
  pub stages : StagesAfter m.width m.stages xs k

-- the rows that bucket k adds, where it took the inputs before it
abbrev pub mill_added : MillState → List Tagged → List Tagged → ℕ → List Tuple
mill_added m before bucket k = added_output (engine_value (specs_of m.stages)) m.width before bucket k
