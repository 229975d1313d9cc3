use Rattle.std.proofs.Common.{◌≡◌, take}
use Rattle.dpc_model.specs.Operators.{mapped}
use Rattle.trial_ideal.proofs.operators.map.Given as goal

abbrev pub invariant-loop-tuple : goal.invariant-loop-tuple
invariant-loop-tuple l = l.out.items ≡ mapped l.exprs (take l.tuple-index l.tuples)
