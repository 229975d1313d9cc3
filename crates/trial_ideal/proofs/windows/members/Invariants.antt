use Rattle.std.proofs.Common.{◌≡◌, take}
use Rattle.trial_ideal.specs.Rows.{with_value}
use Rattle.trial_ideal.proofs.windows.members.Given as goal

abbrev pub invariant-loop-tuple : goal.invariant-loop-tuple
invariant-loop-tuple l = l.out.items ≡ with_value l.column l.value (take l.tuple-index l.tuples)
