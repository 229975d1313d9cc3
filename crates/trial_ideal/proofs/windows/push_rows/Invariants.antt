use Rattle.std.proofs.Common.{◌≡◌, ◌++◌, map}
use Rattle.dpc_model.specs.Operators.{distinct_values}
use Rattle.trial_ideal.specs.Rows.{column_values, group_row}
use Rattle.trial_ideal.proofs.windows.push_rows.Given as goal

abbrev pub invariant-loop-value : goal.invariant-loop-value
invariant-loop-value l =
    l.out.items ++ map (group_row l.column l.aggs l.stime l.tuples) l.value-iterator
    ≡ l.initial.out.items ++ map (group_row l.column l.aggs l.stime l.tuples) (distinct_values (column_values l.column l.tuples))
