-- Open sessions that carried items, so that the session law speaks of some.
use Rattle.std.specs.Prelude.{◌≡◌, ℕ, true, nat_le, [], ◌∷◌, length, take, Some, None, refl}
use Rattle.std.specs.List.{list_all}
use Rattle.dpc_lists.specs.Lists.{nth}
use Rattle.dpc_model.specs.declared.scripts.Script.{Script}
use Rattle.dpc_model.specs.Sessions.{no_session, tally_of}
use Rattle.world_model.specs.Worlds.{new_world, run, node_at}
use Rattle.world_model.specs.Schedules.{lockstep_journal}
use Rattle.world_model.specs.SessionLaw.{sent_after}
use Rattle.trial_runs.specs.Opened.{all_opened}
use Rattle.trial_runs.specs.BothAsk.{script as both_ask}
use Rattle.trial_runs.specs.PassedAndCorrected.{script as passed_and_corrected}

-- how many items a node's open session with its first reader carried, after so many events of the one-thread journal
abbrev carried_at : Script → ℕ → ℕ → ℕ → ℕ
carried_at script a reader k =
    let events = take k (lockstep_journal script) in
    elim (node_at (run script.plan events) a) [
      | None ↦ 0
      | Some n ↦ elim (tally_of (nth no_session n.subs 0)) [
        | None ↦ 0
        | Some l ↦ length (sent_after (record { sender = a; reader = reader; sess = l.0 }) [] (new_world script.plan) events)
      ]
    ]

pub busy : list_all (λ k. nat_le 5 (carried_at both_ask 2 4 k)) (220 ∷ 260 ∷ []) ≡ true
unfolding all_opened
busy = refl

pub busy_passing : list_all (λ k. nat_le 4 (carried_at passed_and_corrected 3 4 k)) (150 ∷ 1000 ∷ []) ≡ true
unfolding all_opened
busy_passing = refl
