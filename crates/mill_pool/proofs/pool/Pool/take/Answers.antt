use Rattle.mill_pool.proofs.Steps.{pops, sees}
use Rattle.mill_pool.proofs.pool.Pool.take.Goals as goal

pub pop_as-requires-clause-rule : goal.pop_as-requires-clause-rule
pop_as-requires-clause-rule g c = (pops _ _ c.seat.invariant.live, sees _ _)
