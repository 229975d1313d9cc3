use Rattle.mill_pool.proofs.Making.{HasMade}
use Rattle.mill_pool.proofs.pool.make_seats.Given as goal

abbrev pub invariant-loop-number : goal.invariant-loop-number
invariant-loop-number g l = HasMade l.queue l.pass l.made.items l.number
