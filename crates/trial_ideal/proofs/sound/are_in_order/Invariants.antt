use Rattle.std.proofs.Common.{◌≤◌}
use Rattle.std.specs.List.{AllAdjacentBelow}
use Rattle.dpc_model.specs.declared.tuples.Tuple.{Tuple}
use Rattle.trial_ideal.proofs.sound.are_in_order.Given as goal

abbrev pub invariant-loop-i : goal.invariant-loop-i
invariant-loop-i l = (1 ≤ l.i) × AllAdjacentBelow (λ (t u : Tuple). t.stime ≤ u.stime) l.tuples l.i
