use Rattle.std.proofs.Common.{arith, ◌-◌}
use Rattle.std.proofs.lemmas.Grind.{common_steps}
use Rattle.trial_ideal.proofs.Columns.{column_values-drop, insert_key-value}
use Rattle.trial_ideal.proofs.windows.groups.Goals as goal

pub loop-i-preserved : goal.loop-i-preserved
loop-i-preserved c = grind (arith, common_steps, column_values-drop c.args.column c.args.tuples.now (c.loop-i.i - 1) c.index-tuples-i.result, insert_key-value)
