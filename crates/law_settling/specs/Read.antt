-- When the readers of sources have all of them.
use Rattle.std.specs.Prelude.{◌≡◌, ℕ, ◌+◌, ◌<◌, ◌≤◌, IsTrue, List, ◌++◌, length, Some, slice_get}
use Rattle.dpc_model.specs.Fragments.{log_of}
use Rattle.dpc_model.specs.Reading.{Reader, is_sure}
use Rattle.dpc_model.specs.Actors.{role_of, inputs_of}
use Rattle.dpc_model.specs.Ports.{Port}
use Rattle.dpc_model.specs.declared.messages.Event.{Event}
use Rattle.dpc_model.specs.declared.plans.Plan.{Plan}
use Rattle.dpc_model.specs.declared.plans.StreamRef.TheVariants.{Source}
use Rattle.dpc_model.specs.declared.scripts.Script.{Script}
use Rattle.world_model.specs.Worlds.{World, run}
use Rattle.world_model.specs.Schedules.{is_live_so_far, is_live, settling_phases}
use Rattle.world_model.specs.Steady.{IsSteady, OpensWell}
use Rattle.law_granting.specs.Taken.{port_of}
use Rattle.law_schedules.specs.Journals.{phases_in}
use Rattle.law_readers.specs.Settling.{CanSettle}
use Rattle.law_settling.specs.Rests.{RestsPast}

-- a reader has a source's whole log and its last boundary, and nothing that may be corrected
pub record HasLog (plan : Plan) (s : ℕ) (r : Reader) : Type 0 where
  pub stable : r.stable ≡ log_of plan s
  pub bound : r.bound ≡ plan.end
  pub sure : IsTrue (is_sure r)

-- every port that reads a source, of a node or a client
pub record IsReadAt (plan : Plan) (w : World) (x p s : ℕ) : Type 0 where
  pub port : Port
  pub there : port_of w x p ≡ Some port
  pub has : HasLog plan s port.inlet.held

abbrev pub SourcesAreRead : Plan → World → Type 0
SourcesAreRead plan w = (x p s : ℕ) → slice_get (inputs_of plan (role_of plan x)) p ≡ Some (Source s) → IsReadAt plan w x p s

-- the number of quiet phases in which sources are read, once nobody recovers any more
abbrev pub reading_phases : ℕ
reading_phases = 8

-- a reader that does not recover past some phase of a run that is live so far has the source's whole log from the phase on that follows so many after it
abbrev pub ReaderHasLog : Script → List Event → Type 0
ReaderHasLog script events =
    CanSettle script → IsTrue (is_live_so_far script events) → OpensWell script events →
    (before rest : List Event) (x p s floor : ℕ) → events ≡ before ++ rest → length script.phases < floor → RestsPast script events x floor → floor + reading_phases + 1 ≤ phases_in before →
    slice_get (inputs_of script.plan (role_of script.plan x)) p ≡ Some (Source s) → IsReadAt script.plan (run script.plan before) x p s

-- so it is in a live run, from the phase on that follows so many after the last in which a recovery may go on
abbrev pub ReadsSources : Script → List Event → Type 0
ReadsSources script events =
    CanSettle script → IsTrue (is_live script events) → OpensWell script events → IsSteady script events →
    (before rest : List Event) → events ≡ before ++ rest → length script.phases + settling_phases + reading_phases + 1 ≤ phases_in before → SourcesAreRead script.plan (run script.plan before)
