-- What contracts see of the value behind the lock, and what its type keeps.
use Rattle.std.specs.Prelude.{◌≡◌, ℕ, ◌+◌, true, false, length, Option, Some, None}
use Rattle.dpc_model.specs.declared.scripts.Script.{Script}
use Rattle.world_model.specs.Worlds.{WouldReach, excess}
use Rattle.world_model.specs.Schedules.{may}
use Rattle.world_core.specs.Runs.{world_of}
use Rattle.live_run.specs.Lives.{LiveRunOf, world_in}
use Rattle.event_shares.specs.Shares.{ShareOf}
use Rattle.node_threads.specs.declared.stop.Stop.{Stop}

pub record HallOf : Type 0 where
  pub run : LiveRunOf
  -- the event that would have passed a limit, with the numbers that it would have reached
  pub stop : Option Stop

-- a run passes no limit so far
abbrev pub IsWithin : LiveRunOf → Type 0
IsWithin run = excess run.script.plan run.events ≡ None

-- such an event may follow the journal of a run that passes no limit, and would reach these numbers
pub record StopsAt (run : LiveRunOf) (s : Stop) : Type 0 where
  pub within : IsWithin run
  pub may_come : may run.script run.events s.event ≡ true
  pub reaches : WouldReach (world_of (world_in run)) s.event s.envelopes s.items

abbrev pub StopFits : LiveRunOf → Option Stop → Type 0
StopFits run None = Unit {0}
StopFits run (Some s) = StopsAt run s

-- what the type keeps
pub record IsHall (script : Script) (run : LiveRunOf) (total : ℕ) (stop : Option Stop) : Type 0 where
  pub named : run.script ≡ script
  pub counted : total ≡ length run.events
  pub going : run.spent ≡ false → (stop ≡ None) × IsWithin run
  pub stopped : StopFits run stop

-- one event more is counted
abbrev pub counted_one : ShareOf → ShareOf
counted_one s = record s { amount = s.amount + 1 }

-- the journal and the share grow by the same number of events
abbrev pub GrowTogether : LiveRunOf → LiveRunOf → ShareOf → ShareOf → Type 0
GrowTogether before after share shared = (shared.parts ≡ share.parts) × (shared.amount + length before.events ≡ share.amount + length after.events)
