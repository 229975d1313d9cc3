use Rattle.std.proofs.Common.{◌≡◌}
use Rattle.live_watch.proofs.crew.Crew.watch.Given as goal

abbrev pub invariant-loop : goal.invariant-loop
invariant-loop g l = l.seat ≡ l.fn.seat
