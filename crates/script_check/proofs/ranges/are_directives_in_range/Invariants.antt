use Rattle.std.proofs.Common.{◌≡◌, true, take}
use Rattle.dpc_lists.specs.Lists.{list_all}
use Rattle.script_rules.specs.Checking.{is_directive_in_range}
use Rattle.script_check.proofs.ranges.are_directives_in_range.Given as goal

abbrev pub invariant-loop-directive : goal.invariant-loop-directive
invariant-loop-directive l = list_all (is_directive_in_range l.plan) (take l.directive-index l.directives) ≡ true
