use Rattle.std.proofs.Common.{◌≡◌, take}
use Rattle.lockstep.specs.Ends.{fates_of}
use Rattle.lockstep.proofs.deliveries.fates.Given as goal

abbrev pub invariant-loop-directive : goal.invariant-loop-directive
invariant-loop-directive l = l.fates.items ≡ fates_of (take l.directive-index l.directives)
