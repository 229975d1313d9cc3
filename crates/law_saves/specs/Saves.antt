-- The snapshots that nodes save at the ends of phases.
use Rattle.std.specs.Prelude.{ℕ, Bool, false, if◌then◌else◌, nat_lt, List, [], ◌∷◌, Option, Some, None}
use Rattle.dpc_model.specs.Actors.{role_of}
use Rattle.dpc_model.specs.declared.actors.Role.{Role}
use Rattle.dpc_model.specs.declared.actors.Role.TheVariants.{Source as IsSource, Node as IsNode, Client as IsClient, Nobody}
use Rattle.dpc_model.specs.declared.messages.Event.{Event}
use Rattle.dpc_model.specs.declared.messages.Event.TheVariants.{Phase, Emit, Release, Cut, Heal, Crash, Restart, Deliver, Tick, Mill}
use Rattle.dpc_model.specs.declared.plans.Plan.{Plan}
use Rattle.node_model.specs.Mails.{Snap}
use Rattle.node_model.specs.Nodes.{Home, PlainNode}
use Rattle.node_model.specs.NodeSteps.{snapshot}
use Rattle.world_model.specs.Worlds.{World, new_world, home_of, slot_of, happens, run}

-- what a node could save: it is up, and does not recover
abbrev pub snap_in : Home → Option PlainNode → Option Snap
snap_in home None = None
snap_in home (Some p) = if p.recovering then None else Some (snapshot home p)

abbrev pub role_snap : World → ℕ → Role → Option Snap
role_snap w a (IsNode f r) = snap_in (home_of w.plan (f, r)) (slot_of w a).node
role_snap w a (IsSource s) = None
role_snap w a (IsClient c) = None
role_snap w a Nobody = None

abbrev pub snap_at : World → ℕ → Option Snap
snap_at w a = role_snap w a (role_of w.plan a)

-- the later of two
abbrev pub later : Option Snap → Option Snap → Option Snap
later old None = old
later old (Some s) = Some s

-- a phase ends where the next one opens
abbrev pub ends_phase : Event → Bool
ends_phase (Phase p) = nat_lt 1 p
ends_phase (Emit s t) = false
ends_phase (Release s t) = false
ends_phase (Cut a b) = false
ends_phase (Heal a b) = false
ends_phase (Crash a) = false
ends_phase (Restart a i) = false
ends_phase (Deliver k) = false
ends_phase (Tick a now) = false
ends_phase (Mill a r) = false

abbrev pub saved_from : ℕ → World → Option Snap → List Event → Option Snap
saved_from a w last [] = last
saved_from a w last (e ∷ events) = saved_from a (happens w e) (if ends_phase e then later last (snap_at w a) else last) events

-- what a node saved last at the ends of phases, but for the present one
unfoldable pub saved_before : Plan → List Event → ℕ → Option Snap
saved_before plan events a = saved_from a (new_world plan) None events

-- and at the end of the present one too; before the first event nothing is saved
abbrev pub saved_last : Plan → List Event → ℕ → Option Snap
saved_last plan [] a = None
saved_last plan (e ∷ events) a = later (saved_before plan (e ∷ events) a) (snap_at (run plan (e ∷ events)) a)
