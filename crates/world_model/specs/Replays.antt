-- Where the replay of a journal stops.
use Rattle.std.specs.Prelude.{ℕ, ◌+◌, Bool, true, false, not, ◌&&◌, if◌then◌else◌, List, [], ◌∷◌}
use Rattle.dpc_model.specs.declared.messages.Event.{Event}
use Rattle.dpc_model.specs.declared.scripts.Script.{Script}
use Rattle.world_model.specs.Worlds.{Sums, sums_after, passes_limit}
use Rattle.world_model.specs.Schedules.{Progress, first_progress, next_progress, may_follow, is_phase_complete, phase_left}

-- entry k may not come where it stands, or would pass a limit and reach these numbers; or all entries happened, and the run is at its end
-- or not
pub data ReplayEnd : Type 0 where
  Refused : (k : ℕ) → ReplayEnd
  Passes : (k : ℕ) (reached : Sums) → ReplayEnd
  Unfinished : ReplayEnd
  Whole : ReplayEnd

-- nothing is left of the last phase, nor a phase behind it
abbrev pub is_at_end : Script → Progress → Bool
is_at_end script x = is_phase_complete x && not (phase_left script x)

-- the replay from this progress on, where the first entry has number k
abbrev pub replay_from : Script → Progress → ℕ → List Event → ReplayEnd
replay_from script x k [] = if is_at_end script x then Whole else Unfinished
replay_from script x k (e ∷ events) =
    elim (may_follow script x e) [
      | false ↦ Refused k
      | true ↦ elim (passes_limit x.world e) [
        | true ↦ Passes k (sums_after x.world e)
        | false ↦ replay_from script (next_progress script x e) (k + 1) events
      ]
    ]

unfoldable pub replay_end : Script → List Event → ReplayEnd
replay_end script events = replay_from script (first_progress script) 0 events
