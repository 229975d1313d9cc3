use Rattle.std.proofs.Common.{◌≡◌, true, take}
use Rattle.dpc_lists.specs.Lists.{list_all}
use Rattle.script_rules.specs.Checking.{is_log_in_range}
use Rattle.script_check.proofs.ranges.is_log_in_range.Given as goal

abbrev pub invariant-loop-entry : goal.invariant-loop-entry
invariant-loop-entry l = list_all is_log_in_range (take l.entry-index l.log) ≡ true
