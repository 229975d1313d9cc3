use Rattle.std.proofs.Common.{◌≡◌, false}
use Rattle.trial_crashes.proofs.happening.happen_all.Given as goal

abbrev pub invariant-loop-event : goal.invariant-loop-event
invariant-loop-event l = l.world.spent ≡ false
