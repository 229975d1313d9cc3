-- The state of a mill as plain data: what a mill has, which data a mill can have had, and the mill of it.
use Rattle.std.specs.Prelude.{◌≡◌, ℕ, ◌+◌, ◌*◌, Bool, true, false, ◌&&◌, if◌then◌else◌, List, [], ◌∷◌, map, Option, None, Some, unwrap_or, slice_get}
use Rattle.std.specs.Option.{option_map}
use Rattle.dpc_model.specs.Engines.{nameless}
use Rattle.dpc_model.specs.Fragments.{AreSoundOps}
use Rattle.dpc_model.specs.declared.tuples.Tagged.{Tagged}
use Rattle.dpc_model.specs.declared.operators.Agg.{Agg}
use Rattle.dpc_model.specs.declared.operators.OpSpec.{OpSpec}
use Rattle.dpc_model.specs.declared.operators.OpKind.{OpKind}
use Rattle.dpc_model.specs.declared.operators.OpKind.TheVariants as kind
use Rattle.dpc_model.specs.declared.plans.FragSpec.{FragSpec}
use Rattle.dpc_model.specs.declared.plans.Plan.{Plan}
use Rattle.ops_stateless.specs.FilterOp.{filter_before}
use Rattle.ops_stateless.specs.MapOps.{map_before}
use Rattle.ops_stateless.specs.Unions.{union_before}
use Rattle.ops_join.specs.Joins.{JoinState}
use Rattle.ops_join.specs.Saving.{can_all_wait, resumed_join}
use Rattle.ops_window.specs.Windows.{AggregateState}
use Rattle.ops_window.specs.Saving.{all_saved, resumed_aggregate}
use Rattle.ops_window.specs.Saving.{can_all_wait as can_cells_wait}
use Rattle.fragment_mill.specs.declared.operator.Operator.{Operator}
use Rattle.fragment_mill.specs.declared.operator.Operator.TheVariants.{Filter, Map, Union, Join, Aggregate}
use Rattle.fragment_mill.specs.declared.mill.Stage.{Stage}
use Rattle.fragment_mill.specs.declared.states.MillParts.{MillParts}
use Rattle.fragment_mill.specs.declared.states.OperatorParts.{OperatorParts}
use Rattle.fragment_mill.specs.declared.states.OperatorParts.TheVariants as part
use Rattle.fragment_mill.specs.Mills.{kind_of, next_of, width_of, spent_of, MillState, MillAfter, specs_of, new_stage}
use Rattle.fragment_mill.specs.Milling.{IsReady}

-- ---- what a mill has

-- what an operator keeps: a filter, a map and a union nothing
abbrev pub part_of : Operator → OperatorParts
part_of (Filter f) = part.Plain
part_of (Map m) = part.Plain
part_of (Union u) = part.Plain
part_of (Join j) = part.Join j.left j.right
part_of (Aggregate a) = part.Aggregate (all_saved a.cells)

abbrev pub parts_of : MillState → MillParts
parts_of m = record { next = m.next; operators = map (λ (s : Stage). part_of s.operator) m.stages }

-- ---- which data a mill can have had

abbrev pub is_plain : OperatorParts → Bool
is_plain part.Plain = true
is_plain (part.Join left right) = false
is_plain (part.Aggregate cells) = false

-- whether these are the sides of a join where the next bucket begins at b
abbrev pub are_sides : ℕ → ℕ → OperatorParts → Bool
are_sides within b part.Plain = false
are_sides within b (part.Join left right) = can_all_wait within b left && can_all_wait within b right
are_sides within b (part.Aggregate cells) = false

-- whether these are the cells of an aggregate where the next bucket begins at b
abbrev pub are_cells : ℕ → ℕ → Option ℕ → List Agg → ℕ → OperatorParts → Bool
are_cells size step group aggs b part.Plain = false
are_cells size step group aggs b (part.Join left right) = false
are_cells size step group aggs b (part.Aggregate cells) = can_cells_wait size step group aggs b cells

-- whether an operator of this kind can have had this state where the next bucket begins at b
abbrev pub suits_kind : ℕ → OpKind → OperatorParts → Bool
suits_kind b (kind.Filter e) p = is_plain p
suits_kind b (kind.Map es) p = is_plain p
suits_kind b kind.Union p = is_plain p
suits_kind b (kind.Join within keys) p = are_sides within b p
suits_kind b (kind.Aggregate size step group aggs) p = are_cells size step group aggs b p

-- an operator, unless it is spent, keeps what its kind can have kept before its next bucket
abbrev pub SuitsItself : Operator → Type 0
SuitsItself o = spent_of o ≡ false → suits_kind (next_of o * unwrap_or (width_of o) 0) (kind_of o) (part_of o) ≡ true

-- the first operator, the first of these being number i, that can't have had its state, or that has none, or a state of none
abbrev pub fault_from : ℕ → ℕ → List OpSpec → List OperatorParts → Option ℕ
fault_from b i [] [] = None
fault_from b i [] (p ∷ ps) = Some i
fault_from b i (op ∷ ops) [] = Some i
fault_from b i (op ∷ ops) (p ∷ ps) = if suits_kind b op.kind p then fault_from b (i + 1) ops ps else Some i

-- the operators of a fragment of a plan
abbrev pub ops_at : Plan → ℕ → List OpSpec
ops_at plan frag = unwrap_or (option_map (λ (f : FragSpec). f.ops) (slice_get plan.frags frag)) []

-- the first operator of a plan's fragment that can't have had its state
abbrev pub state_fault : Plan → ℕ → MillParts → Option ℕ
state_fault plan frag parts = fault_from (parts.next * plan.width) 0 (ops_at plan frag) parts.operators

-- ---- the mill of such data

abbrev pub with_sides : JoinState → ℕ → OperatorParts → JoinState
with_sides j next part.Plain = j
with_sides j next (part.Join left right) = resumed_join j next left right
with_sides j next (part.Aggregate cells) = j

abbrev pub with_cells : AggregateState → ℕ → OperatorParts → AggregateState
with_cells a next part.Plain = a
with_cells a next (part.Join left right) = a
with_cells a next (part.Aggregate cells) = resumed_aggregate a next cells

-- an operator with this state, before bucket `next`
abbrev pub resumed : ℕ → Operator → OperatorParts → Operator
resumed next (Filter f) p = Filter (filter_before f.expr next)
resumed next (Map m) p = Map (map_before m.exprs next)
resumed next (Union u) p = Union (union_before u.ports u.width next)
resumed next (Join j) p = Join (with_sides j next p)
resumed next (Aggregate a) p = Aggregate (with_cells a next p)

abbrev pub resumed_stage : ℕ → Stage → OperatorParts → Stage
resumed_stage next s p = record { reads = s.reads; operator = resumed next s.operator p }

abbrev pub resumed_stages : ℕ → List Stage → List OperatorParts → List Stage
resumed_stages next [] ps = []
resumed_stages next (s ∷ ss) [] = []
resumed_stages next (s ∷ ss) (p ∷ ps) = resumed_stage next s p ∷ resumed_stages next ss ps

-- the mill of these operators with this state, over buckets of this width
abbrev pub mill_of : ℕ → List OpSpec → MillParts → MillState
mill_of width ops parts = record {
  width = width;
  stages = resumed_stages parts.next (map (new_stage width) ops) parts.operators;
  next = parts.next;
  spent = false;
}

-- ---- there and back

-- an unspent mill of a plan's fragment
pub record IsOf (plan : Plan) (frag : ℕ) (m : MillState) : Type 0 where
  pub sound : AreSoundOps (ops_at plan frag)
  pub width : m.width ≡ plan.width
  pub operators : specs_of m.stages ≡ nameless (ops_at plan frag)
  pub idle : m.spent ≡ false

-- its parts have no fault, and what is made of them is the mill
pub record ComesBack (plan : Plan) (frag : ℕ) (m : MillState) (parts : MillParts) : Type 0 where
  pub sound : state_fault plan frag parts ≡ None
  pub same : mill_of plan.width (ops_at plan frag) parts ≡ m

-- a mill that took inputs as the engine of a plan's fragment does comes back from its parts
abbrev pub StatesComeBack : Type 0
StatesComeBack = (plan : Plan) (frag : ℕ) (m : MillState) (xs : List Tagged) → IsReady m → IsOf plan frag m → MillAfter m xs m.next → ComesBack plan frag m (parts_of m)
