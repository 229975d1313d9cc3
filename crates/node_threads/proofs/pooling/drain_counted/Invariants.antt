use Rattle.std.specs.Prelude.{◌≡◌}
use Rattle.mill_pool.specs.Seats.{known}
use Rattle.node_threads.proofs.pooling.drain_counted.Given as goal

abbrev pub invariant-loop : goal.invariant-loop
invariant-loop g l =
    (goal.iterator-loop g).can_next l.iterator' × (goal.iterator-loop g).is_finite l.iterator' × (l.share.parts ≡ l.fn.share.parts)
    × (l.seat.pool ≡ l.fn.seat.pool) × ((known l.seat.seat).number ≡ (known l.fn.seat.seat).number) × ((known l.seat.seat).parts ≡ (known l.fn.seat.seat).parts)
