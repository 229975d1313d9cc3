use Rattle.std.proofs.Common.{◌≡◌, take}
use Rattle.dpc_model.specs.Streams.{cut}
use Rattle.trial_ideal.proofs.operators.cut.Given as goal

abbrev pub invariant-loop-tuple : goal.invariant-loop-tuple
invariant-loop-tuple l = l.out.items ≡ cut (take l.tuple-index l.tuples) l.b
