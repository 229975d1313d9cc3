use Rattle.std.proofs.Common.{◌≡◌, take}
use Rattle.dpc_model.specs.Operators.{filtered}
use Rattle.trial_ideal.proofs.operators.filter.Given as goal

abbrev pub invariant-loop-tuple : goal.invariant-loop-tuple
invariant-loop-tuple l = l.out.items ≡ filtered l.test (take l.tuple-index l.tuples)
