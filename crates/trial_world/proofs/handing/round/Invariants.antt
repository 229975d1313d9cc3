use Rattle.std.proofs.Common.{◌≡◌, false}
use Rattle.trial_world.proofs.handing.round.Given as goal

abbrev pub invariant-loop-k : goal.invariant-loop-k
invariant-loop-k l = l.world.spent ≡ false

abbrev pub invariant-loop-actor : goal.invariant-loop-actor
invariant-loop-actor l = l.world.spent ≡ false
