use Rattle.std.proofs.Common.{◌≡◌}
use Rattle.client_views.proofs.ending.tell_rest.Given as goal

abbrev pub invariant-loop-i : goal.invariant-loop-i
invariant-loop-i g l = l.seats ≡ l.fn.seats
