-- What a run says of work that it hands out, and of work that comes back done.
use Rattle.std.specs.Prelude.{◌≡◌, ℕ, Bool, true, false, min, length, Some, None}
use Rattle.dpc_model.specs.Actors.{role_of}
use Rattle.dpc_model.specs.Limits.{most_milled}
use Rattle.dpc_model.specs.declared.actors.Role.TheVariants.{Node as IsNode}
use Rattle.fragment_mill.specs.Mills.{MillState}
use Rattle.mill_work.specs.Milling.{OrderValue}
use Rattle.node_model.specs.Nodes.{PlainNode}
use Rattle.node_core.specs.declared.faults.Point.{Point}
use Rattle.node_core.specs.Milling.{CanBeMilled, IsWorkAt, IsBeside, needed_by, is_stale}
use Rattle.world_model.specs.Worlds.{home_of, slot_of, node_at, ready_at}
use Rattle.world_parts.specs.Handing.{down_point}
use Rattle.world_parts.specs.declared.faults.CommitFault.{CommitFault as PartFault}
use Rattle.world_parts.specs.declared.faults.CommitFault.TheVariants as part_fault
use Rattle.world_core.specs.declared.faults.CommitFault.{CommitFault}
use Rattle.world_core.specs.declared.faults.CommitFault.TheVariants as commit_fault
use Rattle.world_core.specs.Runs.{RunOf, world_of}

-- ---- work that is handed out, and work that fits

-- the order's actor is a node that is up, and this is work for it where it stands now
pub record Fits (w : RunOf) (o : OrderValue MillState) : Type 0 where
  pub frag : ℕ
  pub replica : ℕ
  pub plain : PlainNode
  pub role : role_of w.plan o.node ≡ IsNode frag replica
  pub up : node_at (world_of w) o.node ≡ Some plain
  pub work : IsWorkAt (home_of w.plan (frag, replica)) plain o

-- work for that actor, all its ready buckets or the most that may be milled at once
pub record IsWorkOf (w : RunOf) (actor : ℕ) (o : OrderValue MillState) : Type 0 where
  pub node : o.node ≡ actor
  pub count : length o.buckets ≡ min most_milled (ready_at (world_of w) actor)
  pub can : CanBeMilled o
  pub fits : Fits w o

-- ---- work that is stale

-- the order's node is down, or stands somewhere else
pub record IsStaleAt (w : RunOf) (o : OrderValue MillState) (had needed : Point) : Type 0 where
  pub asked : needed ≡ needed_by o
  pub stale : is_stale had needed ≡ true
  pub down : node_at (world_of w) o.node ≡ None → had ≡ down_point (slot_of (world_of w) o.node).last_inc
  pub up : (f r : ℕ) (p : PlainNode) → role_of w.plan o.node ≡ IsNode f r → node_at (world_of w) o.node ≡ Some p → IsBeside (home_of w.plan (f, r)) p o had

-- ---- faults

-- all parts' fault as one of the run
abbrev pub fault_of_parts : PartFault → CommitFault
fault_of_parts part_fault.NoMemory = commit_fault.NoMemory
fault_of_parts (part_fault.TooLong envelopes items) = commit_fault.TooLong envelopes items
fault_of_parts (part_fault.Stale had needed) = commit_fault.Stale had needed

-- a fault leaves the run spent, unless the order is stale
abbrev pub is_loss : CommitFault → Bool
is_loss commit_fault.NoMemory = true
is_loss commit_fault.Spent = true
is_loss (commit_fault.TooLong envelopes items) = true
is_loss (commit_fault.Stale had needed) = false
