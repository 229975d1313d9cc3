use Rattle.std.proofs.Common.{◌≡◌, true}
use Rattle.world_core.specs.Runs.{world_of}
use Rattle.live_run.proofs.Reaching.{all_reached}
use Rattle.live_run.proofs.goals.are_reached.Given as goal

-- the first of them stand there
abbrev pub invariant-loop-actor : goal.invariant-loop-actor
invariant-loop-actor l = all_reached (world_of l.world) l.cursors.items l.actor ≡ true
