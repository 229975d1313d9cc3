use Rattle.std.proofs.Common.{◌≡◌, ℕ, cond, nat_lt, length}
use Rattle.dpc_lists.specs.Lists.{nth}
use Rattle.world_model.specs.Schedules.{is_recovering}
use Rattle.world_core.specs.Runs.{world_of}
use Rattle.live_run.proofs.goals.ease_all.Given as goal

-- the first of them are eased
abbrev pub invariant-loop-actor : goal.invariant-loop-actor
invariant-loop-actor l =
    (length l.cursors.items ≡ length l.initial.cursors.items)
    × ((a : ℕ) → nth 0 l.cursors.items a ≡ cond (nat_lt a l.actor) (cond (is_recovering (world_of l.world) a) 0 (nth 0 l.initial.cursors.items a)) (nth 0 l.initial.cursors.items a))
