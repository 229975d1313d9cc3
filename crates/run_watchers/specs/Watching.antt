-- What a watcher is told of a run.
use Rattle.std.specs.Prelude.{[], ◌∷◌, ◌++◌, false}
use Rattle.dpc_model.specs.declared.messages.Event.{Event}
use Rattle.dpc_model.specs.declared.plans.Plan.{Plan}
use Rattle.world_core.specs.Runs.{RunOf}

-- nothing happened yet
abbrev pub unstarted : Plan → RunOf
unstarted plan = record { plan = plan; events = []; spent = false }

-- the run went on by one event
abbrev pub gone_on : RunOf → Event → RunOf
gone_on run event = record run { events = run.events ++ event ∷ [] }

-- what was made of a run since whatever start is made of a later one too
abbrev pub StillSaw : {S : Type 0} → (S → RunOf → S → Type 0) → RunOf → S → RunOf → S → Type 0
StillSaw {S} saw run watcher later after = (start : S) → saw start run watcher → saw start later after

-- what stayed true since whatever start stays true on
abbrev pub StaysOn : {S : Type 0} → (S → S → Type 0) → S → S → Type 0
StaysOn {S} stays watcher after = (start : S) → stays start watcher → stays start after
