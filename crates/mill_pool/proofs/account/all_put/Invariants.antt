use Rattle.std.proofs.Common.{◌≡◌, take}
use Rattle.mill_pool.specs.Jobs.{tickets}
use Rattle.mill_pool.specs.Seats.{put_by}
use Rattle.mill_pool.proofs.account.all_put.Given as goal

abbrev pub invariant-loop-seat : goal.invariant-loop-seat
invariant-loop-seat g l = l.all.items ≡ tickets (put_by (take l.seat-index l.seats))
