use Rattle.std.proofs.Common.{◌≡◌, take}
use Rattle.dpc_model.specs.Operators.{all_of}
use Rattle.trial_ideal.proofs.operators.union.Given as goal

abbrev pub invariant-loop-input : goal.invariant-loop-input
invariant-loop-input l = l.out.items ≡ all_of (take l.input-index l.inputs)
