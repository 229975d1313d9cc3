use Rattle.std.proofs.Common.{◌≤◌, IsTrue}
use Rattle.std.specs.List.{AllAdjacentBelow}
use Rattle.dpc_model.specs.Engines.{precedes}
use Rattle.dpc_model.proofs.engines.are_in_order.Given as goal

abbrev pub invariant-loop-i : goal.invariant-loop-i
invariant-loop-i l = (1 ≤ l.i) × AllAdjacentBelow (λ x y. IsTrue (precedes x y)) l.inputs l.i
