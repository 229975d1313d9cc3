use Rattle.std.proofs.Common.{◌≡◌, true, take}
use Rattle.dpc_lists.specs.Lists.{list_all}
use Rattle.script_rules.specs.Checking.{is_source_in_range}
use Rattle.script_check.proofs.ranges.are_sources_in_range.Given as goal

abbrev pub invariant-loop-source : goal.invariant-loop-source
invariant-loop-source l = list_all is_source_in_range (take l.source-index l.sources) ≡ true
