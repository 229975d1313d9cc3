use Rattle.std.proofs.Common.{◌≡◌, ◌<◌, length, drop}
use Rattle.dpc_model.specs.Operators.{greatest_value}
use Rattle.trial_ideal.specs.Rows.{column_values}
use Rattle.trial_ideal.proofs.windows.greatest.Given as goal

abbrev pub invariant-loop-i : goal.invariant-loop-i
invariant-loop-i l = (l.i < length l.tuples) × (l.greatest ≡ greatest_value (column_values l.column (drop l.i l.tuples)))

abbrev pub decreases-loop-i : goal.decreases-loop-i
decreases-loop-i l = l.i
