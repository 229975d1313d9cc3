-- Processing ready buckets in the node, or apart from it.
use Rattle.std.specs.Prelude.{◌≡◌, ◌↔◌, ℕ, ◌≤◌, ◌||◌, ◌==◌, Bool, true, not, nat_lt, if◌then◌else◌, IsTrue, List, length, map, Some}
use Rattle.dpc_model.specs.Granting.{with_ask_over}
use Rattle.dpc_model.specs.declared.messages.NodeState.TheVariants.{Stable}
use Rattle.dpc_model.specs.Limits.{most_milled}
use Rattle.dpc_lists.specs.Lists.{nth, range_with_len}
use Rattle.dpc_model.specs.declared.tuples.Tagged.{Tagged}
use Rattle.fragment_mill.specs.Mills.{MillState}
use Rattle.mill_work.specs.Milling.{OrderValue, IsOrder}
use Rattle.dpc_model.specs.declared.tuples.Tuple.{Tuple}
use Rattle.node_model.specs.Nodes.{Home, spec_of, PlainNode, bucket_of, ready}
use Rattle.node_model.specs.NodeParts.{inputs_of, outputs_of}
use Rattle.node_model.specs.NodeSteps.{mill_step}
use Rattle.pipeline.specs.Flowing.{IsEngineOf}
use Rattle.pipeline.specs.Committing.{CanPut}
use Rattle.node_core.specs.declared.faults.Point.{Point}
use Rattle.node_core.specs.declared.packets.Mail as code_mail
use Rattle.node_model.specs.Fitting.{IsFit}
use Rattle.node_core.specs.Standing.{NodeValue, StandsForNode, AreMails}

-- so many buckets may be processed at a fit plain node that is stood for
pub record CanMill (count : ℕ) (home : Home) (v : NodeValue) (p : PlainNode) : Type 0 where
  pub stands : StandsForNode home v p
  pub fit : IsFit home p
  pub ready : count ≤ ready home p

pub record CanMillNode (count : ℕ) (v : NodeValue) : Type 0 where
  pub some : 1 ≤ count
  pub few : count ≤ most_milled
  pub node : (home : Home) × (p : PlainNode) × CanMill count home v p

-- they were processed, and what is sent stands for what that sends
pub record MillSteps (count : ℕ) (old new : NodeValue) (told : List code_mail.Mail) : Type 0 where
  pub after : (home : Home) (p : PlainNode) → CanMill count home old p → StandsForNode home new (mill_step home count p).after
  pub sends : (home : Home) (p : PlainNode) → CanMill count home old p → AreMails home told (mill_step home count p).sends

-- behind the last corrections the ask is over, and the node is STABLE
abbrev pub corrected : Bool → NodeValue → NodeValue
corrected done v =
    if done then record v { links = record v.links { known = record v.links.known { grants = with_ask_over v.links.known.grants } }; state = Stable } else v

-- ---- work that is done apart

-- the next ready buckets as the plain node has them
abbrev pub next_buckets : Home → PlainNode → ℕ → List (List Tagged)
next_buckets home p count = map (bucket_of home p) (range_with_len p.cursor count)

-- an order that can be milled
abbrev pub CanBeMilled : OrderValue MillState → Type 0
CanBeMilled o = IsOrder (λ (m : MillState). m.next) (λ (m : MillState). Some m.width) (λ (m : MillState). m.spent) o

-- the engine at the plain node's cursor: the operators of its fragment at the plan's width, unspent, after exactly what it processed
abbrev pub IsEngineAt : Home → PlainNode → MillState → Type 0
IsEngineAt home p m = IsEngineOf (spec_of home).ops home.plan.width (inputs_of p) m

-- an order's engine is the one at the plain node's cursor, and its buckets are the next ready ones
pub record Fits (home : Home) (p : PlainNode) (o : OrderValue MillState) : Type 0 where
  pub engine : IsEngineAt home p o.before
  pub ready : length o.buckets ≤ ready home p
  pub buckets : o.buckets ≡ next_buckets home p (length o.buckets)

-- it begins at the plain node's cursor, and as many buckets are ready
abbrev pub FitsInNumbers : Home → PlainNode → OrderValue MillState → Type 0
FitsInNumbers home p o = (o.cursor ≡ p.cursor) × (length o.buckets ≤ ready home p)

-- numbers alone tell whether it fits the plain node
abbrev pub IsKnownAt : Home → PlainNode → OrderValue MillState → Type 0
IsKnownAt home p o = Fits home p o ↔ FitsInNumbers home p o

-- it is work for the plain node where that stands now
pub record IsWorkAt (home : Home) (p : PlainNode) (o : OrderValue MillState) : Type 0 where
  pub inc : o.inc ≡ p.grants.inc
  pub cursor : o.cursor ≡ p.cursor
  pub fits : Fits home p o

-- an order for so many buckets of this node
pub record IsOrderOf (v : NodeValue) (count : ℕ) (o : OrderValue MillState) : Type 0 where
  pub node : o.node ≡ nth 0 v.links.replicas v.links.me
  pub many : length o.buckets ≡ count
  pub work : (home : Home) (p : PlainNode) → CanMill count home v p → IsWorkAt home p o
  pub can : CanBeMilled o

-- where the plain node stands beside an order
pub record IsBeside (home : Home) (p : PlainNode) (o : OrderValue MillState) (had : Point) : Type 0 where
  pub up : had.up ≡ true
  pub inc : had.inc ≡ p.grants.inc
  pub cursor : had.cursor ≡ p.cursor
  pub ready : had.ready ≡ ready home p
  pub fits : IsTrue had.fits ↔ Fits home p o

-- and where it would have to stand
abbrev pub needed_by : OrderValue MillState → Point
needed_by o = record { up = true; inc = o.inc; cursor = o.cursor; ready = length o.buckets; fits = true }

-- it stands somewhere else
abbrev pub is_stale : Point → Point → Bool
is_stale had needed = not (had.inc == needed.inc) || not (had.cursor == needed.cursor) || nat_lt had.ready needed.ready || not had.fits

-- so many buckets may be processed at the plain node, and this engine and these tuples come of an order for exactly these
pub record CanPutAt (count : ℕ) (v : NodeValue) (after : MillState) (outputs : List Tuple) (home : Home) (p : PlainNode) : Type 0 where
  pub can : CanMill count home v p
  pub path : CanPut (spec_of home).ops v.path (inputs_of p) (outputs_of p) count after outputs

-- an order was put back where it was not stale, by exactly the step of processing its buckets
pub record IsCommitted (o : OrderValue MillState) (old new : NodeValue) (sends : List code_mail.Mail) : Type 0 where
  pub work : (home : Home) (p : PlainNode) → StandsForNode home old p → IsFit home p → IsWorkAt home p o
  pub steps : MillSteps (length o.buckets) old new sends

-- it is stale, and nothing changed
pub record WasStale (o : OrderValue MillState) (old new : NodeValue) (had needed : Point) : Type 0 where
  pub stays : new ≡ old
  pub asked : needed ≡ needed_by o
  pub stale : is_stale had needed ≡ true
  pub beside : (home : Home) (p : PlainNode) → StandsForNode home old p → IsFit home p → IsBeside home p o had
