use Rattle.std.specs.Prelude.{◌≡◌}
use Rattle.mill_pool.specs.Seats.{known}
use Rattle.node_threads.proofs.pooling.PoolSeat.put_all.Given as goal

abbrev pub invariant-loop-node : goal.invariant-loop-node
invariant-loop-node g l =
    (l.share.parts ≡ l.fn.share.parts) × (l.self.pool ≡ l.fn.self.pool) × ((known l.self.seat).number ≡ (known l.fn.self.seat).number) × ((known l.self.seat).parts ≡ (known l.fn.self.seat).parts)
