use Rattle.std.proofs.Common.{◌≡◌, true, take}
use Rattle.dpc_lists.specs.Lists.{list_all}
use Rattle.script_rules.specs.Checking.{is_op_in_range}
use Rattle.script_check.proofs.operator_ranges.are_operators_in_range.Given as goal

abbrev pub invariant-loop-op : goal.invariant-loop-op
invariant-loop-op l = list_all (is_op_in_range l.plan) (take l.op-index l.ops) ≡ true
