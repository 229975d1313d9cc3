use Rattle.std.proofs.Common.{◌≡◌}
use Rattle.client_views.proofs.seat.Seat.learn.Given as goal

abbrev pub invariant-loop-receipt : goal.invariant-loop-receipt
invariant-loop-receipt g l = l.self ≡ l.fn.self
