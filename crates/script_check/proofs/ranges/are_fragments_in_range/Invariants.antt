use Rattle.std.proofs.Common.{◌≡◌, true, take}
use Rattle.dpc_lists.specs.Lists.{list_all}
use Rattle.script_rules.specs.Checking.{is_frag_in_range}
use Rattle.script_check.proofs.ranges.are_fragments_in_range.Given as goal

abbrev pub invariant-loop-frag : goal.invariant-loop-frag
invariant-loop-frag l = list_all (is_frag_in_range l.plan) (take l.frag-index l.frags) ≡ true
