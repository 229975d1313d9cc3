-- What nodes saved, an event at a time.
use Rattle.std.proofs.Common.{◌≡◌, ℕ, if◌then◌else◌, List, [], ◌∷◌, ◌++◌, Option, refl}
use Rattle.dpc_model.specs.declared.messages.Event.{Event}
use Rattle.node_model.specs.Mails.{Snap}
use Rattle.world_model.specs.Worlds.{World, happens, run_from}
use Rattle.law_saves.specs.Saves.{snap_at, later, ends_phase, saved_from}

-- the last event adds what the node could save before it, where it ends a phase
pub from-one : (a : ℕ) (w : World) (last : Option Snap) (events : List Event) (e : Event)
    → saved_from a w last (events ++ e ∷ []) ≡ (if ends_phase e then later (saved_from a w last events) (snap_at (run_from w events) a) else saved_from a w last events)
from-one a w last [] e = refl
from-one a w last (x ∷ events) e = from-one a (happens w x) (if ends_phase x then later last (snap_at w a) else last) events e
