use Rattle.std.proofs.Common.{◌≡◌, ◌≤◌, length, drop}
use Rattle.dpc_model.specs.Operators.{distinct_values}
use Rattle.trial_ideal.specs.Rows.{column_values}
use Rattle.trial_ideal.proofs.windows.groups.Given as goal

abbrev pub invariant-loop-i : goal.invariant-loop-i
invariant-loop-i l = (l.i ≤ length l.tuples) × (l.values.keys ≡ distinct_values (column_values l.column (drop l.i l.tuples)))

abbrev pub decreases-loop-i : goal.decreases-loop-i
decreases-loop-i l = l.i
