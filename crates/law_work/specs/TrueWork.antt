-- Work of a node as it is where nothing fails, and what decides whether it fits a node that is up.
use Rattle.std.specs.Prelude.{◌≡◌, ◌↔◌, ℕ, ◌+◌, ◌*◌, ◌≤◌, List, map, length, Some}
use Rattle.dpc_lists.specs.Lists.{range_with_len}
use Rattle.dpc_model.specs.Actors.{role_of}
use Rattle.dpc_model.specs.Fragments.{serial}
use Rattle.dpc_model.specs.Operators.{between}
use Rattle.dpc_model.specs.Parts.{ArePastBounds}
use Rattle.dpc_model.specs.declared.actors.Role.TheVariants.{Node as IsNode}
use Rattle.dpc_model.specs.declared.plans.Plan.{Plan}
use Rattle.dpc_model.specs.declared.tuples.Tuple.{Tuple}
use Rattle.dpc_model.specs.declared.tuples.Tagged.{Tagged}
use Rattle.fragment_mill.specs.Mills.{MillState, MillAfter}
use Rattle.mill_work.specs.Milling.{OrderValue}
use Rattle.node_model.specs.Nodes.{Home, PlainNode, spec_of}
use Rattle.node_model.specs.NodeParts.{inputs_of}
use Rattle.pipeline.specs.Flowing.{IsMillOf}
use Rattle.node_core.specs.Milling.{Fits, FitsInNumbers, IsWorkAt}
use Rattle.world_model.specs.Safe.{ideal_inputs, IsSafeNode}
use Rattle.world_model.specs.Worlds.{World, home_of, node_at}
use Rattle.law_safety.specs.Plans.{IsPlace}

-- ---- what is true of work

-- what a fragment takes when nothing fails, below bucket k, in serial order
abbrev pub true_inputs : Plan → ℕ → ℕ → List Tagged
true_inputs plan f k = serial (ideal_inputs plan f (k * plan.width))

-- its failure-free bucket k
abbrev pub true_bucket : Plan → ℕ → ℕ → List Tagged
true_bucket plan f k = serial (map (λ (ts : List Tuple). between (k * plan.width) ((k + 1) * plan.width) ts) (ideal_inputs plan f ((k + 1) * plan.width)))

-- so many of its failure-free buckets, from number k on
abbrev pub true_buckets : Plan → ℕ → ℕ → ℕ → List (List Tagged)
true_buckets plan f k count = map (true_bucket plan f) (range_with_len k count)

-- an unspent engine of the fragment's operators that took just the failure-free inputs below bucket k
pub record IsTrueEngine (plan : Plan) (f k : ℕ) (m : MillState) : Type 0 where
  pub of : IsMillOf (spec_of (home_of plan (f, 0))).ops plan.width m
  pub took : MillAfter m (true_inputs plan f k) k

-- work of a node that no failure has touched: such an engine at its first bucket, and the failure-free buckets from there on
pub record IsTrueWork (plan : Plan) (o : OrderValue MillState) : Type 0 where
  pub frag : ℕ
  pub replica : ℕ
  pub role : role_of plan o.node ≡ IsNode frag replica
  pub engine : IsTrueEngine plan frag o.cursor o.before
  pub buckets : o.buckets ≡ true_buckets plan frag o.cursor (length o.buckets)

-- ---- whether it fits

-- a node in its place of a checked plan that is safe, and holds nothing tentative below its bounds: so every run keeps it
pub record IsSoundNode (home : Home) (p : PlainNode) : Type 0 where
  pub place : IsPlace home
  pub safe : IsSafeNode home p
  pub past : ArePastBounds (inputs_of p)

-- ---- in a world of a plan

-- each node that is up is sound
abbrev pub NodesAreSound : Plan → World → Type 0
NodesAreSound plan w = (a f r : ℕ) (p : PlainNode) → role_of plan a ≡ IsNode f r → node_at w a ≡ Some p → IsSoundNode (home_of plan (f, r)) p

-- what is work for the node that is up at the order's actor is true
abbrev pub WorkIsTrue : Plan → World → Type 0
WorkIsTrue plan w =
    (f r : ℕ) (p : PlainNode) (o : OrderValue MillState) → role_of plan o.node ≡ IsNode f r → node_at w o.node ≡ Some p → 1 ≤ length o.buckets →
    IsWorkAt (home_of plan (f, r)) p o → IsTrueWork plan o

-- true work fits that node exactly where the numbers do
abbrev pub TrueWorkFitsByNumbers : Plan → World → Type 0
TrueWorkFitsByNumbers plan w =
    (f r : ℕ) (p : PlainNode) (o : OrderValue MillState) → role_of plan o.node ≡ IsNode f r → node_at w o.node ≡ Some p → 1 ≤ length o.buckets →
    IsTrueWork plan o → Fits (home_of plan (f, r)) p o ↔ FitsInNumbers (home_of plan (f, r)) p o
