-- How what is kept of a run's past stands for how far it is in its script.
use Rattle.std.specs.Prelude.{◌≡◌, length}
use Rattle.dpc_model.specs.Actors.{roles_of}
use Rattle.dpc_model.specs.declared.scripts.Script.{Script}
use Rattle.world_model.specs.Schedules.{Progress, quiet_limit, last_clock}
use Rattle.live_parts.specs.Moments.{StandsForMoment}
use Rattle.live_parts.specs.Inboxes.{StandsForWaiting}
use Rattle.live_run.specs.Goals.{StandsForTargets}
use Rattle.live_run.specs.declared.course.Course.{Course}
use Rattle.live_run.specs.declared.timetable.Timetable.{Timetable}

-- the phases are those of a script
pub record IsOf (script : Script) (t : Timetable) : Type 0 where
  pub phases : t.phases ≡ script.phases
  pub settle : t.settle ≡ script.settle
  pub quiet : t.quiet ≡ quiet_limit script.plan
  pub last : t.last ≡ last_clock script

pub record Stands (c : Course) (p : Progress) : Type 0 where
  pub moment : StandsForMoment c.moment p
  pub waiting : StandsForWaiting c.inboxes p.world p.waiting
  pub targets : StandsForTargets c.goals p.targets
  -- a place for each actor
  pub actors : length c.moment.ticked.items ≡ length (roles_of p.world.plan)
  pub nodes : length c.goals ≡ length (roles_of p.world.plan)
