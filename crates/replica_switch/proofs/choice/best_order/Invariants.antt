use Rattle.std.proofs.Common.{◌≡◌}
use Rattle.replica_switch.proofs.Orders.{least_to}
use Rattle.replica_switch.proofs.choice.best_order.Given as goal

-- the best of those so far
abbrev pub invariant-loop-rank : goal.invariant-loop-rank
invariant-loop-rank l = l.best ≡ least_to l.rank-index l.ranks
