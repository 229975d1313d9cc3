use Rattle.std.proofs.Common.{◌≡◌, true, take}
use Rattle.dpc_lists.specs.Lists.{list_all}
use Rattle.script_rules.specs.Spelling.{is_i64}
use Rattle.script_check.proofs.ranges.are_values_in_range.Given as goal

abbrev pub invariant-loop-value : goal.invariant-loop-value
invariant-loop-value l = list_all is_i64 (take l.value-index l.values) ≡ true
