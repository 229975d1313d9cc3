use Rattle.std.proofs.Common.{◌≡◌, take}
use Rattle.mill_pool.specs.Jobs.{tickets}
use Rattle.mill_pool.specs.Seats.{taken_by}
use Rattle.mill_pool.proofs.account.all_taken.Given as goal

abbrev pub invariant-loop-seat : goal.invariant-loop-seat
invariant-loop-seat g l = l.all.items ≡ tickets (taken_by (take l.seat-index l.seats))
