-- Work on a node's own engine that comes back: what it is to the plain node, where numbers alone tell whether it fits.
use Rattle.std.specs.Prelude.{◌≡◌, ℕ, true, None, Some, IfSome}
use Rattle.dpc_model.specs.Actors.{role_of}
use Rattle.dpc_model.specs.declared.actors.Role.TheVariants.{Node as IsNode}
use Rattle.dpc_model.specs.declared.plans.Plan.{Plan}
use Rattle.fragment_mill.specs.Mills.{MillState}
use Rattle.mill_work.specs.Milling.{OrderValue}
use Rattle.node_model.specs.Nodes.{Home, PlainNode}
use Rattle.node_core.specs.declared.faults.Point.{Point}
use Rattle.node_core.specs.Milling.{IsKnownAt, IsWorkAt, IsBeside, needed_by, is_stale}
use Rattle.world_model.specs.Worlds.{World, Slot, home_of, slot_of, node_at}
use Rattle.world_parts.specs.Handing.{down_point}
use Rattle.world_parts.specs.Parts.{SlotValue}
use Rattle.world_parts.specs.Slots.{CanStep}

-- ---- at a place

-- it stands for a plain place, and numbers tell whether the work fits the node there, where that is up
pub record CanCompare (o : OrderValue MillState) (home : Home) (v : SlotValue) (x : Slot) : Type 0 where
  pub slot : CanStep home v x
  pub known : IfSome x.node (λ p. IsKnownAt home p o)

-- the node is up, and this is work for it where it stands now
pub record IsWorkFor (o : OrderValue MillState) (home : Home) (x : Slot) : Type 0 where
  pub plain : PlainNode
  pub up : x.node ≡ Some plain
  pub work : IsWorkAt home plain o

-- the node is down, or stands somewhere else
pub record IsLateFor (o : OrderValue MillState) (had needed : Point) (home : Home) (x : Slot) : Type 0 where
  pub asked : needed ≡ needed_by o
  pub stale : is_stale had needed ≡ true
  pub down : x.node ≡ None → had ≡ down_point x.last_inc
  pub up : (p : PlainNode) → x.node ≡ Some p → IsBeside home p o had

-- ---- in the world

-- the order's actor is a node that is up, and this is work for it where it stands now
pub record IsTimelyIn (plan : Plan) (x : World) (o : OrderValue MillState) : Type 0 where
  pub frag : ℕ
  pub replica : ℕ
  pub plain : PlainNode
  pub role : role_of plan o.node ≡ IsNode frag replica
  pub up : node_at x o.node ≡ Some plain
  pub work : IsWorkAt (home_of plan (frag, replica)) plain o

-- its node is down, or stands somewhere else
pub record IsLateIn (plan : Plan) (x : World) (o : OrderValue MillState) (had needed : Point) : Type 0 where
  pub asked : needed ≡ needed_by o
  pub stale : is_stale had needed ≡ true
  pub down : node_at x o.node ≡ None → had ≡ down_point (slot_of x o.node).last_inc
  pub up : (f r : ℕ) (p : PlainNode) → role_of plan o.node ≡ IsNode f r → node_at x o.node ≡ Some p → IsBeside (home_of plan (f, r)) p o had
