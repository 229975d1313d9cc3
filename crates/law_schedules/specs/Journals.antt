-- What the laws of live journals speak of.
use Rattle.std.specs.Prelude.{◌≡◌, ℕ, ◌+◌, ◌-◌, ◌^◌, ◌≤◌, Bool, true, ◌&&◌, nat_le, if◌then◌else◌, List, [], ◌∷◌, length, Option, Some, None, slice_get}
use Rattle.dpc_model.specs.Actors.{role_of}
use Rattle.dpc_model.specs.declared.actors.Role.{Role}
use Rattle.dpc_model.specs.declared.actors.Role.TheVariants.{Source as IsSource, Node as IsNode, Client as IsClient, Nobody}
use Rattle.dpc_model.specs.declared.messages.Event.{Event}
use Rattle.dpc_model.specs.declared.messages.Event.TheVariants.{Phase, Emit, Release, Cut, Heal, Crash, Restart, Deliver, Tick, Mill}
use Rattle.dpc_model.specs.declared.scripts.Phase.{Phase as PhaseSpec}
use Rattle.dpc_model.specs.declared.scripts.Script.{Script}
use Rattle.node_model.specs.Nodes.{PlainNode}
use Rattle.world_model.specs.Worlds.{World, Envelope, home_of, slot_of, source_at, client_at, can_come, can_mill, is_clock}
use Rattle.world_model.specs.Schedules.{quiet_limit, last_clock}

-- ---- phases

-- the number of phases that a journal opens
abbrev pub phases_in : List Event → ℕ
phases_in [] = 0
phases_in (Phase p ∷ es) = phases_in es + 1
phases_in (Emit s t ∷ es) = phases_in es
phases_in (Release s t ∷ es) = phases_in es
phases_in (Cut a b ∷ es) = phases_in es
phases_in (Heal a b ∷ es) = phases_in es
phases_in (Crash a ∷ es) = phases_in es
phases_in (Restart a i ∷ es) = phases_in es
phases_in (Deliver k ∷ es) = phases_in es
phases_in (Tick a now ∷ es) = phases_in es
phases_in (Mill a r ∷ es) = phases_in es

-- the most phases of a script's run, the quiet ones among them
abbrev pub most_phases : Script → ℕ
most_phases script = if script.settle then length script.phases + quiet_limit script.plan else length script.phases

-- ---- events that are not void

-- an envelope of this number was sent, and it can come
pub record Comes (w : World) (k : ℕ) : Type 0 where
  pub envelope : Envelope
  pub is_sent : slice_get w.envelopes k ≡ Some envelope
  pub may : can_come w envelope ≡ true

-- the actor is a node that is up, and so many of its buckets may be milled
pub record Mills (w : World) (a r : ℕ) : Type 0 where
  pub frag : ℕ
  pub replica : ℕ
  pub node : PlainNode
  pub role : role_of w.plan a ≡ IsNode frag replica
  pub is_up : (slot_of w a).node ≡ Some node
  pub may : can_mill (home_of w.plan (frag, replica)) r node ≡ true

-- the clock of an actor that is up
abbrev pub node_clock : Option PlainNode → Option ℕ
node_clock None = None
node_clock (Some n) = Some n.clock

abbrev pub clock_by : World → ℕ → Role → Option ℕ
clock_by w a (IsSource s) = Some (source_at w s).clock
clock_by w a (IsNode f r) = node_clock (slot_of w a).node
clock_by w a (IsClient c) = Some (client_at w c).clock
clock_by w a Nobody = None

abbrev pub clock_at : World → ℕ → Option ℕ
clock_at w a = clock_by w a (role_of w.plan a)

-- the actor is up, and its clock may become this one
pub record Ticks (w : World) (a now : ℕ) : Type 0 where
  pub old : ℕ
  pub is_up : clock_at w a ≡ Some old
  pub may : is_clock old now ≡ true

-- ---- a script's clocks

-- no clock is below this one, or below one before it
abbrev pub are_rising : ℕ → List PhaseSpec → Bool
are_rising low [] = true
are_rising low (spec ∷ rest) = nat_le low spec.now && are_rising spec.now rest

-- clocks that do not fall, and that stay in range through the quiet phases, where the script ends with settle
pub record IsClocked (script : Script) : Type 0 where
  pub rising : are_rising 0 script.phases ≡ true
  pub within : last_clock script + (most_phases script - length script.phases) ≤ 2 ^ 40
