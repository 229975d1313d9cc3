use Rattle.std.proofs.Common.{◌≡◌, length}
use Rattle.client_views.specs.Watching.{AreInOrder}
use Rattle.client_views.proofs.opening.open_all.Given as goal

abbrev pub invariant-loop-client : goal.invariant-loop-client
invariant-loop-client g l = AreInOrder l.workers l.client l.seats × (length l.seats ≡ length l.fn.seats)
