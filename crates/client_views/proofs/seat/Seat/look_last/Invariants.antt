use Rattle.std.proofs.Common.{◌≡◌}
use Rattle.client_views.proofs.Sights.{AreSeen}
use Rattle.client_views.proofs.seat.Seat.look_last.Given as goal

abbrev pub invariant-loop-c : goal.invariant-loop-c
invariant-loop-c g l = (l.self-inside.watches.items ≡ l.fn.self) × AreSeen g.N.ViewName.plan l.reader l.clients l.c l.watched.items
