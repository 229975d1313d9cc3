-- How a picture goes on with the events of a run.
use Rattle.std.specs.Prelude.{ℕ, ◌-◌, ◌==◌, if◌then◌else◌, List, [], ◌∷◌, ◌++◌, map, length, Option}
use Rattle.dpc_lists.specs.Lists.{nth, push, changed}
use Rattle.dpc_model.specs.declared.messages.Event.{Event}
use Rattle.dpc_model.specs.declared.messages.Event.TheVariants.{Phase, Emit, Release, Cut, Heal, Crash, Restart, Deliver, Tick, Mill}
use Rattle.dpc_model.specs.declared.plans.Plan.{Plan}
use Rattle.dpc_model.specs.declared.plans.SourceSpec.{SourceSpec}
use Rattle.dpc_model.specs.declared.scripts.Script.{Script}
use Rattle.world_model.specs.Worlds.{World, new_world, happens, run, node_at, is_release_time}
use Rattle.world_model.specs.Schedules.{node_actors}
use Rattle.picture_model.specs.Marking.{promises_of, grants_between, losses_of}
use Rattle.picture_model.specs.Points.{replica_state, first_point, emitted_to, released_to, client_point}
use Rattle.picture_model.specs.declared.columns.Column.{Column}
use Rattle.picture_model.specs.declared.columns.Mark.{Mark}
use Rattle.picture_model.specs.declared.columns.Mark.TheVariants as mark
use Rattle.picture_model.specs.declared.columns.SourcePoint.{SourcePoint}

-- The columns of the phases that are over, and by replica the promise that it had when the last one was; and what events tell of the phase that
-- runs: its number, 0 before the first one; the clock of the last tick; how far each source is; and what happened to links and nodes.
pub record Drawing : Type 0 where
  pub columns : List Column
  pub promises : List (Option ℕ)
  pub number : ℕ
  pub clock : ℕ
  pub sources : List SourcePoint
  pub marks : List Mark

-- before the first event
abbrev pub blank : Plan → Drawing
blank plan = record { columns = []; promises = []; number = 0; clock = 0; sources = map (λ (s : SourceSpec). first_point) plan.sources; marks = [] }

-- ---- a column

-- the phase that runs, as the world stands
abbrev pub column_of : Plan → World → Drawing → Column
column_of plan w d =
    record {
      number = d.number;
      clock = d.clock;
      sources = d.sources;
      replicas = map (λ a. replica_state (node_at w a)) (node_actors plan);
      clients = map (client_point plan) w.clients;
      cuts = length w.cuts;
      marks = d.marks ++ grants_between plan d.promises (promises_of plan w);
    }

-- all columns, with that of the phase that runs, where one was opened
abbrev pub columns_at : Plan → World → Drawing → List Column
columns_at plan w d = if d.number == 0 then d.columns else push d.columns (column_of plan w d)

-- ---- an event

-- a phase opens, so the one before is over
abbrev pub opened : Plan → World → ℕ → Drawing → Drawing
opened plan w p d = record d { columns = columns_at plan w d; promises = promises_of plan w; number = p; marks = [] }

abbrev pub marked : Mark → Drawing → Drawing
marked m d = record d { marks = push d.marks m }

-- a source's event moves it, where its time is from 1 to end
abbrev pub emitted : Plan → ℕ → ℕ → Drawing → Drawing
emitted plan s t d = record d { sources = if is_release_time plan t then changed s (emitted_to t) d.sources else d.sources }

abbrev pub released : Plan → ℕ → ℕ → Drawing → Drawing
released plan s t d = record d { sources = if is_release_time plan t then changed s (released_to t) d.sources else d.sources }

-- what an event makes of it, in a world as it was before
abbrev pub drawn : Plan → World → Event → Drawing → Drawing
drawn plan w (Phase p) d = opened plan w p d
drawn plan w (Emit s t) d = emitted plan s t d
drawn plan w (Release s t) d = released plan s t d
drawn plan w (Cut a b) d = marked (mark.Cut a b) d
drawn plan w (Heal a b) d = marked (mark.Heal a b) d
drawn plan w (Crash a) d = marked (mark.Crash a) d
drawn plan w (Restart a i) d = marked (mark.Restart a i) d
drawn plan w (Deliver k) d = d
drawn plan w (Tick a now) d = record d { clock = now }
drawn plan w (Mill a r) d = d

-- ---- a run

abbrev pub drawing_from : Plan → World → Drawing → List Event → Drawing
drawing_from plan w d [] = d
drawing_from plan w d (e ∷ events) = drawing_from plan (happens w e) (drawn plan w e d) events

unfoldable pub drawing : Plan → List Event → Drawing
drawing plan events = drawing_from plan (new_world plan) (blank plan) events

-- the columns of all phases of a run, the last one as things stand
unfoldable pub picture_of : Plan → List Event → List Column
picture_of plan events = columns_at plan (run plan events) (drawing plan events)

-- ---- a script's run

-- what was lost and repeated as a phase began comes before all that happened in it
abbrev pub with_losses : List (List Mark) → Column → Column
with_losses losses c = record c { marks = nth [] losses (c.number - 1) ++ c.marks }

unfoldable pub whole_picture : Script → List Event → List Column
whole_picture script events = map (with_losses (losses_of script)) (picture_of script.plan events)
