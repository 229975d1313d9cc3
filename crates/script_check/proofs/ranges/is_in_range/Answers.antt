use Rattle.std.proofs.Common.{arith}
use Rattle.std.proofs.lemmas.Grind.{common_steps}
use Rattle.script_rules.specs.Checking.{is_in_range}
use Rattle.script_check.proofs.ranges.is_in_range.Goals as goal

pub returns-then-are_clients_in_range : goal.returns-then-are_clients_in_range
unfolding is_in_range
returns-then-are_clients_in_range c = grind (arith, common_steps)

pub returns-else-are_clients_in_range : goal.returns-else-are_clients_in_range
unfolding is_in_range
returns-else-are_clients_in_range c = grind (arith, common_steps)
