-- How a replay goes on, and where it stops.
use Rattle.std.specs.Prelude.{⊤, ◌≡◌, ℕ, true, false, List}
use Rattle.dpc_model.specs.declared.messages.Event.{Event}
use Rattle.dpc_model.specs.declared.scripts.Script.{Script}
use Rattle.world_model.specs.Worlds.{WouldReach, passes_limit}
use Rattle.world_model.specs.Schedules.{may}
use Rattle.world_model.specs.Replays.{Refused as RefusedAt, Passes, Unfinished as EndsEarly, replay_end}
use Rattle.world_core.specs.Runs.{world_of}
use Rattle.live_run.specs.Lives.{LiveRunOf, world_in, with_event}
use Rattle.journal_replay.specs.declared.faults.ReplayFault.{ReplayFault}
use Rattle.journal_replay.specs.declared.faults.ReplayFault.TheVariants.{NoMemory, TooLong, Refused, Unfinished}

-- an event happened that might come, and passes no limit
pub record Happened (old new : LiveRunOf) (e : Event) : Type 0 where
  pub may : may old.script old.events e ≡ true
  pub within : passes_limit (world_of (world_in old)) e ≡ false
  pub after : new ≡ with_event old e

-- the entry of this number did not happen
abbrev pub StopsAt : LiveRunOf → Event → ℕ → ReplayFault → Type 0
StopsAt old e entry NoMemory = ⊤
StopsAt old e entry (TooLong envelopes items) = (may old.script old.events e ≡ true) × WouldReach (world_of (world_in old)) e envelopes items
StopsAt old e entry (Refused number) = (may old.script old.events e ≡ false) × (number ≡ entry)
StopsAt old e entry Unfinished = ⊥

-- why the replay of a journal has no world: what its definition says, or want of memory
abbrev pub StopsSo : Script → List Event → ReplayFault → Type 0
StopsSo script events NoMemory = ⊤
StopsSo script events (TooLong envelopes items) = (k : ℕ) × (replay_end script events ≡ Passes k (record { envelopes = envelopes; items = items }))
StopsSo script events (Refused entry) = replay_end script events ≡ RefusedAt entry
StopsSo script events Unfinished = replay_end script events ≡ EndsEarly
