-- Work that all actors hand out, and what an order is to them when it comes back done.
use Rattle.std.specs.Prelude.{◌≡◌, ℕ, true, false, min, length, Option, Some, None}
use Rattle.dpc_model.specs.Actors.{role_of}
use Rattle.dpc_model.specs.Limits.{most_milled}
use Rattle.dpc_lists.specs.Lists.{nth}
use Rattle.dpc_model.specs.declared.actors.Role.{Role}
use Rattle.dpc_model.specs.declared.actors.Role.TheVariants.{Source as IsSource, Node as IsNode, Client as IsClient, Nobody}
use Rattle.dpc_model.specs.declared.plans.Plan.{Plan}
use Rattle.fragment_mill.specs.Mills.{MillState}
use Rattle.mill_work.specs.Milling.{OrderValue}
use Rattle.node_model.specs.Nodes.{Home, PlainNode}
use Rattle.node_model.specs.Fitting.{IsFit}
use Rattle.node_core.specs.declared.faults.Point.{Point}
use Rattle.node_core.specs.declared.faults.CommitFault.{CommitFault as NodeFault}
use Rattle.node_core.specs.declared.faults.CommitFault.TheVariants as node_fault
use Rattle.node_core.specs.Milling.{IsWorkAt, IsOrderOf, IsBeside, needed_by, is_stale}
use Rattle.node_core.specs.Standing.{NodeValue, StandsForNode}
use Rattle.world_model.specs.Worlds.{World, Slot, node_place, slot_of, ready_in, ready_at}
use Rattle.world_parts.specs.declared.faults.EventFault.{EventFault}
use Rattle.world_parts.specs.declared.faults.EventFault.TheVariants as event_fault
use Rattle.world_parts.specs.declared.faults.CommitFault.{CommitFault}
use Rattle.world_parts.specs.declared.faults.CommitFault.TheVariants as commit_fault
use Rattle.world_parts.specs.Events.{IsWorldOf}
use Rattle.world_parts.specs.Parts.{SlotValue, WorldPartsValue, StandsForWorld}
use Rattle.world_parts.specs.Slots.{CanStep}

-- ---- which node

-- the node that an actor is, where it is one and is up
abbrev pub up_role : WorldPartsValue → ℕ → Role → Option NodeValue
up_role v place (IsNode f r) = (nth (record { last_inc = 0; node = None }) v.nodes place).node
up_role v place (IsSource s) = None
up_role v place (IsClient c) = None
up_role v place Nobody = None

abbrev pub up_node : Plan → WorldPartsValue → ℕ → Option NodeValue
up_node plan v actor = up_role v (node_place plan actor) (role_of plan actor)

-- ---- work that is handed out

-- work for the node of this place: all its ready buckets, or the most that may be milled at once
pub record IsSlotOrder (v : SlotValue) (o : OrderValue MillState) : Type 0 where
  pub from : NodeValue
  pub up : v.node ≡ Some from
  pub of : IsOrderOf from (length o.buckets) o
  pub count : (home : Home) (x : Slot) → CanStep home v x → length o.buckets ≡ min most_milled (ready_in home x.node)

-- work for that actor, likewise
pub record IsHandedOut (plan : Plan) (v : WorldPartsValue) (actor : ℕ) (o : OrderValue MillState) : Type 0 where
  pub node : o.node ≡ actor
  pub from : NodeValue
  pub up : up_node plan v actor ≡ Some from
  pub of : IsOrderOf from (length o.buckets) o
  pub count : (x : World) (most : ℕ) → IsWorldOf plan v x most → length o.buckets ≡ min most_milled (ready_at x actor)

-- ---- work that fits

-- the node stands where the order was taken
abbrev pub StandsAt : NodeValue → OrderValue MillState → Type 0
StandsAt n o = (home : Home) (p : PlainNode) → StandsForNode home n p → IsFit home p → IsWorkAt home p o

-- the node is up, and stands there
abbrev pub IsUpAt : Option NodeValue → OrderValue MillState → Type 0
IsUpAt node o = (n : NodeValue) × (node ≡ Some n) × StandsAt n o

abbrev pub IsTimely : Plan → WorldPartsValue → OrderValue MillState → Type 0
IsTimely plan v o = IsUpAt (up_node plan v o.node) o

-- ---- work that is stale

-- where an actor stands that is a node which is down, or none
abbrev pub down_point : ℕ → Point
down_point last_inc = record { up = false; inc = last_inc; cursor = 0; ready = 0; fits = false }

-- the node is up, and stands somewhere else
pub record StandsElsewhere (n : NodeValue) (o : OrderValue MillState) (had needed : Point) : Type 0 where
  pub stale : is_stale had needed ≡ true
  pub beside : (home : Home) (p : PlainNode) → StandsForNode home n p → IsFit home p → IsBeside home p o had

-- the node is down, or stands somewhere else
abbrev pub IsElsewhere : ℕ → Option NodeValue → OrderValue MillState → Point → Point → Type 0
IsElsewhere last_inc None o had needed = had ≡ down_point last_inc
IsElsewhere last_inc (Some n) o had needed = StandsElsewhere n o had needed

-- at a place, and at the order's actor
pub record IsSlotStale (v : SlotValue) (o : OrderValue MillState) (had needed : Point) : Type 0 where
  pub asked : needed ≡ needed_by o
  pub beside : IsElsewhere v.last_inc v.node o had needed

pub record IsStaleAt (plan : Plan) (v : WorldPartsValue) (o : OrderValue MillState) (had needed : Point) : Type 0 where
  pub asked : needed ≡ needed_by o
  pub beside : (x : World) → StandsForWorld plan v x → IsElsewhere (slot_of x o.node).last_inc (up_node plan v o.node) o had needed

-- ---- faults

-- a node's fault as one of all actors: none of these is spent
abbrev pub fault_of_node : NodeFault → CommitFault
fault_of_node node_fault.NoMemory = commit_fault.NoMemory
fault_of_node node_fault.Spent = commit_fault.NoMemory
fault_of_node (node_fault.Stale had needed) = commit_fault.Stale had needed

-- an event's fault as one of putting work back
abbrev pub fault_of_event : EventFault → CommitFault
fault_of_event event_fault.NoMemory = commit_fault.NoMemory
fault_of_event (event_fault.TooLong envelopes items) = commit_fault.TooLong envelopes items
