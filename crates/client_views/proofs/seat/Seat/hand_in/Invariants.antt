use Rattle.std.proofs.Common.{◌≡◌}
use Rattle.client_views.proofs.seat.Seat.hand_in.Given as goal

abbrev pub invariant-loop-i : goal.invariant-loop-i
invariant-loop-i g l = l.self-inside.watches.items ≡ l.fn.self
