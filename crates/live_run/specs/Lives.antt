-- What contracts see of a live run.
use Rattle.std.specs.Prelude.{◌≡◌, ◌⊎◌, Bool, true, List, [], ◌∷◌, ◌++◌}
use Rattle.dpc_model.specs.declared.messages.Event.{Event}
use Rattle.dpc_model.specs.declared.plans.Plan.{Plan}
use Rattle.dpc_model.specs.declared.scripts.Script.{Script}
use Rattle.fragment_mill.specs.Mills.{MillState}
use Rattle.mill_work.specs.Milling.{MilledValue}
use Rattle.world_core.specs.Runs.{RunOf}
use Rattle.live_run.specs.declared.timetable.Timetable.{Timetable}

-- its script, its events, and whether it is spent
pub record LiveRunOf : Type 0 where
  pub script : Script
  pub events : List Event
  pub spent : Bool

abbrev pub script_of : Plan → Timetable → Script
script_of plan t = record { plan = plan; phases = t.phases; settle = t.settle }

-- its world
abbrev pub world_in : LiveRunOf → RunOf
world_in r = record { plan = r.script.plan; events = r.events; spent = r.spent }

-- an event happened
abbrev pub with_event : LiveRunOf → Event → LiveRunOf
with_event r e = record r { events = r.events ++ e ∷ [] }

-- a fault leaves it spent; where memory was wanting behind the event, this has happened
abbrev pub IsLost : LiveRunOf → LiveRunOf → Event → Type 0
IsLost old new e = (new ≡ record old { spent = true }) ⊎ (new ≡ record (with_event old e) { spent = true })

-- work that was put back in vain is given back as it was, and nothing changed
abbrev pub IsToBeTried : LiveRunOf → LiveRunOf → MilledValue MillState → MilledValue MillState → Type 0
IsToBeTried old new done back = (back ≡ done) × (new ≡ old)
