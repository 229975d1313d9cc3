use Rattle.std.specs.Prelude.{◌≡◌}
use Rattle.mill_pool.specs.Seats.{known}
use Rattle.node_threads.proofs.pooling.PoolSeatMilling.mill_all.Given as goal

abbrev pub invariant-loop : goal.invariant-loop
invariant-loop g l =
    (goal.iterator-loop g).can_next l.iterator' × (goal.iterator-loop g).is_finite l.iterator' × (l.share.parts ≡ l.fn.share.parts)
    × (l.self.pool ≡ l.fn.self.pool) × ((known l.self.seat).number ≡ (known l.fn.self.seat).number) × ((known l.self.seat).parts ≡ (known l.fn.self.seat).parts)
