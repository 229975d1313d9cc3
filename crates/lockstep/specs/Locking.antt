-- How contracts say what a step of the one-thread schedule makes of a world.
use Rattle.std.specs.Prelude.{◌≡◌, ◌⊎◌, ◌+◌, IsTrue, true, false, [], length, reverse, Some, None}
use Rattle.dpc_model.specs.declared.plans.Plan.{Plan}
use Rattle.dpc_model.specs.declared.scripts.Script.{Script}
use Rattle.world_model.specs.Schedules.{Told, tell_phases, last_clock, quiet_limit, lockstep_journal, is_live}
use Rattle.world_model.specs.Worlds.{new_world, all_settled, excess}
use Rattle.script_rules.specs.Checking.{IsChecked}
use Rattle.law_schedules.specs.Journals.{phases_in}
use Rattle.law_healing.specs.Healing.{heals}
use Rattle.law_lockstep.specs.Calm.{IsCalm}
use Rattle.world_core.specs.Runs.{RunOf, world_of}
use Rattle.lockstep.specs.declared.phase.RunSoFar.{RunSoFar}
use Rattle.lockstep.specs.declared.faults.RunFault.{RunFault}
use Rattle.lockstep.specs.declared.faults.RunFault.TheVariants.{NoMemory, TooLong}

-- the world stands where this told run is, and no event so far would have passed a limit
pub record IsAt (w : RunOf) (x : Told) : Type 0 where
  pub live : w.spent ≡ false
  pub world : x.world ≡ world_of w
  pub events : reverse x.events ≡ w.events
  pub within : excess w.plan w.events ≡ None

-- wherever it stood, it stands where this leads to
pub record Follows (f : Told → Told) (old new : RunOf) : Type 0 where
  pub plan : new.plan ≡ old.plan
  pub spent : new.spent ≡ old.spent
  pub after : (x : Told) → IsAt old x → IsAt new (f x)

-- a fault that tells of a limit: on the way there an event would pass it, and reach these numbers first
abbrev pub Exceeds : (Told → Told) → RunOf → RunFault → Type 0
Exceeds f old NoMemory = Unit {0}
Exceeds f old (TooLong envelopes items) = (x : Told) → IsAt old x → excess old.plan (reverse (f x).events) ≡ Some (record { envelopes = envelopes; items = items })

-- ---- the end

-- nothing was told yet
abbrev pub untold : Plan → Told
untold plan = record { world = new_world plan; events = [] }

-- a run stands behind all phases of a script, and no quiet one yet
pub record StandsBehind (script : Script) (l : RunSoFar) : Type 0 where
  pub plan : l.world.plan ≡ script.plan
  pub world : IsAt l.world (tell_phases 1 0 script.phases (untold script.plan)).1
  pub number : l.phase ≡ length script.phases + 1
  pub sent : l.first ≡ (tell_phases 1 0 script.phases (untold script.plan)).0
  pub clock : l.now ≡ last_clock script

-- the whole run of a script that ends with settle: its journal is live, and every client is settled or all quiet phases were opened
pub record IsWhole (script : Script) (w : RunOf) : Type 0 where
  pub journal : w.events ≡ lockstep_journal script
  pub live : is_live script w.events ≡ true
  pub ends : (all_settled (world_of w) ≡ true) ⊎ (phases_in w.events ≡ length script.phases + quiet_limit script.plan)

-- where a checked script heals what it breaks, and past the first quiet phases no node recovers, every client is settled at its end
abbrev pub SettlesWhere : Script → RunOf → Type 0
SettlesWhere script w =
    IsChecked script → IsTrue script.settle → heals script ≡ true → IsCalm script w.events → IsTrue (all_settled (world_of w))
