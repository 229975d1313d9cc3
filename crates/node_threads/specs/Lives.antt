-- What a run by several threads ends with.
use Rattle.std.specs.Prelude.{◌≡◌, true, false, None}
use Rattle.dpc_model.specs.declared.scripts.Script.{Script}
use Rattle.world_model.specs.Worlds.{run, excess, WouldReach}
use Rattle.world_model.specs.Schedules.{may, is_live_so_far, is_live}
use Rattle.world_core.specs.Runs.{RunOf, world_of}
use Rattle.node_threads.specs.declared.faults.LiveFault.{LiveFault}
use Rattle.node_threads.specs.declared.faults.LiveFault.TheVariants as live_fault
use Rattle.node_threads.specs.declared.stop.Stop.{Stop}

-- the run of a journal of this script that is complete and live, and passes no limit
pub record IsLiveRun (script : Script) (w : RunOf) : Type 0 where
  pub plan : w.plan ≡ script.plan
  pub unspent : w.spent ≡ false
  pub live : is_live script w.events ≡ true
  pub within : excess script.plan w.events ≡ None

-- a run of this script passes no limit and is live so far, and such an event may follow, but would pass one, and reach these numbers
pub record IsStopped (script : Script) (w : RunOf) (s : Stop) : Type 0 where
  pub plan : w.plan ≡ script.plan
  pub so_far : is_live_so_far script w.events ≡ true
  pub within : excess script.plan w.events ≡ None
  pub may_come : may script w.events s.event ≡ true
  pub reaches : WouldReach (world_of w) s.event s.envelopes s.items

-- a fault that tells of a limit
abbrev pub IsPast : Script → LiveFault → Type 0
IsPast script live_fault.NoMemory = Unit {0}
IsPast script (live_fault.TooLong w s) = IsStopped script w s
