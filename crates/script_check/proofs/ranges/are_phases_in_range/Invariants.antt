use Rattle.std.proofs.Common.{◌≡◌, true, take}
use Rattle.dpc_lists.specs.Lists.{list_all}
use Rattle.script_rules.specs.Checking.{is_phase_in_range}
use Rattle.script_check.proofs.ranges.are_phases_in_range.Given as goal

abbrev pub invariant-loop-phase : goal.invariant-loop-phase
invariant-loop-phase l = list_all (is_phase_in_range l.plan) (take l.phase-index l.phases) ≡ true
