use Rattle.ops_join.specs.RowsOut.{Takes}
use Rattle.dpc_model.specs.Fragments.{ideal}
use Rattle.dpc_model.specs.Streams.{cut}
use Rattle.std.proofs.Common.{◌*◌}
use Rattle.ideal_run.proofs.giving.give_read.Given as goal

-- the rows of the buckets below k were given
abbrev pub invariant-loop-k : goal.invariant-loop-k
invariant-loop-k g l = record { rows : Takes (g.R.RowSink.took l.fn.sink l.fn.out) (g.R.RowSink.took l.sink l.out) (cut (ideal l.plan l.stream) (l.k * l.plan.width)) }
