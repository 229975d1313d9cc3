use Rattle.std.proofs.Common.{◌≡◌, ◌-◌, ◌≤◌}
use Rattle.client_views.proofs.Sights.{AreSeenBy}
use Rattle.client_views.proofs.ending.look_last.Given as goal

abbrev pub invariant-loop-i : goal.invariant-loop-i
invariant-loop-i g l = (l.seats ≡ l.fn.seats) × (l.workers ≤ l.i) × AreSeenBy g.N.ViewName.plan l.clients (l.i - l.workers) l.watched.items
