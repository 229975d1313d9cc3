use Rattle.std.proofs.Common.{◌≡◌, ℕ, cond, nat_lt, length}
use Rattle.dpc_lists.specs.Lists.{nth}
use Rattle.world_core.specs.Runs.{world_of}
use Rattle.live_run.specs.Goals.{goal_in}
use Rattle.live_run.proofs.goals.set_all.Given as goal

-- the first of them are set
abbrev pub invariant-loop-actor : goal.invariant-loop-actor
invariant-loop-actor l =
    (length l.cursors.items ≡ length l.initial.cursors.items)
    × ((a : ℕ) → nth 0 l.cursors.items a ≡ cond (nat_lt a l.actor) (goal_in (world_of l.world) a) (nth 0 l.initial.cursors.items a))
