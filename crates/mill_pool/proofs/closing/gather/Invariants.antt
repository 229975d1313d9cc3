use Rattle.mill_pool.specs.Seats.{known}
use Rattle.mill_pool.proofs.Gathering.{IsUnderWay}
use Rattle.mill_pool.proofs.closing.gather.Given as goal

abbrev pub invariant-loop-seat : goal.invariant-loop-seat
invariant-loop-seat g l = IsUnderWay l.queue (known l.fn.pass) l.fn.seats.items l.pass l.seat-iterator.rest.items
