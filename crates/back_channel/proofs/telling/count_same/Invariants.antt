use Rattle.std.proofs.Common.{◌-◌, List}
use Rattle.dpc_model.specs.declared.tuples.Tuple.{Tuple}
use Rattle.back_channel.specs.Standing.{IsFront, Agrees}
use Rattle.back_channel.proofs.telling.count_same.Given as goal

-- so many are the same
abbrev pub invariant-loop-same : goal.invariant-loop-same
invariant-loop-same l = (ts : List Tuple) → IsFront l.count ts l.old → Agrees l.known ts l.new → Agrees l.same ts l.new

abbrev pub decreases-loop-same : goal.decreases-loop-same
decreases-loop-same l = l.count - l.same
