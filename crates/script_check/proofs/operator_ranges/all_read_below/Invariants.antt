use Rattle.std.proofs.Common.{◌≡◌, true, take}
use Rattle.dpc_lists.specs.Lists.{list_all}
use Rattle.script_rules.specs.Reasons.{agg_reads_below}
use Rattle.script_check.proofs.operator_ranges.all_read_below.Given as goal

abbrev pub invariant-loop-agg : goal.invariant-loop-agg
invariant-loop-agg l = list_all (agg_reads_below l.columns) (take l.agg-index l.aggs) ≡ true
