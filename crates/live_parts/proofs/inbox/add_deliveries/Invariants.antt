use Rattle.std.proofs.Common.{◌≡◌, ◌++◌}
use Rattle.live_parts.specs.Dues.{deliveries}
use Rattle.live_parts.proofs.inbox.add_deliveries.Given as goal

abbrev pub invariant-loop : goal.invariant-loop
invariant-loop l = l.due.items ≡ l.fn.due.items ++ deliveries l.actor l.number l.counter
