use Rattle.std.proofs.Common.{drop}
use Rattle.ops_join.proofs.Givings.{Gave}
use Rattle.ops_join.proofs.rows_out.give_all.Given as goal

abbrev pub invariant-loop-row : goal.invariant-loop-row
invariant-loop-row g l = Gave (g.R.RowSink.took l.fn.sink l.fn.out) (g.R.RowSink.took l.sink l.out) (drop l.row-index l.rows) l.rows
