use Rattle.std.proofs.Common.{◌≡◌}
use Rattle.trial_operators.proofs.driver.milled.Given as goal

abbrev pub invariant-loop-row : goal.invariant-loop-row
invariant-loop-row l = (goal.iterator-loop-row).can_next l.row-iterator × (goal.iterator-loop-row).is_finite l.row-iterator

abbrev pub invariant-loop-k : goal.invariant-loop-k
invariant-loop-k l = (l.mill.next ≡ l.k) × (l.mill.width ≡ l.plan.width)
