use Rattle.std.proofs.Common.{◌≤◌, ◌-◌, length}
use Rattle.trial_operators.proofs.driver.count_below.Given as goal

abbrev pub invariant-loop-count : goal.invariant-loop-count
invariant-loop-count l = l.count ≤ length l.inputs

abbrev pub decreases-loop-count : goal.decreases-loop-count
decreases-loop-count l = length l.inputs - l.count
