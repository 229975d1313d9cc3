use Rattle.std.proofs.Common.{◌≡◌, take}
use Rattle.dpc_model.specs.Operators.{between}
use Rattle.trial_ideal.proofs.windows.between.Given as goal

abbrev pub invariant-loop-tuple : goal.invariant-loop-tuple
invariant-loop-tuple l = l.out.items ≡ between l.from l.to (take l.tuple-index l.tuples)
