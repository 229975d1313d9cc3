-- How what is kept of a phase stands for the progress of a run.
use Rattle.std.specs.Prelude.{◌≡◌, ℕ, ◌≤◌, Bool, false, [], ◌∷◌, length, drop, Option, Some, None}
use Rattle.dpc_lists.specs.Lists.{nth, has}
use Rattle.dpc_model.specs.declared.messages.Event.{Event}
use Rattle.dpc_model.specs.declared.scripts.Directive.{Directive}
use Rattle.world_model.specs.Worlds.{World}
use Rattle.world_model.specs.Schedules.{Progress, event_of, same_event}
use Rattle.live_parts.specs.declared.moment.Moment.{Moment}

-- an event is that of a directive
abbrev pub is_event_of : World → Directive → Event → Bool
is_event_of w d e = elim (event_of w d) [ None ↦ false | Some f ↦ same_event f e ]

-- an event is that of the directive that is there
abbrev pub is_event_there : World → Option Directive → Event → Bool
is_event_there w None e = false
is_event_there w (Some d) e = is_event_of w d e

-- the event of the next directive
abbrev pub next_event : Progress → Option Event
next_event p = elim p.todo [ [] ↦ None | d ∷ rest ↦ event_of p.world d ]

-- the number of phases, the directives that are left, and the actors that ticked
pub record StandsForMoment (m : Moment) (p : Progress) : Type 0 where
  pub phase : p.phase ≡ m.phase
  pub todo : p.todo ≡ drop m.done m.todo.items
  pub within : m.done ≤ length m.todo.items
  pub ticked : (a : ℕ) → has p.ticked a ≡ nth false m.ticked.items a
