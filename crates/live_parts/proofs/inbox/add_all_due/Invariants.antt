use Rattle.std.proofs.Common.{◌≡◌, ◌++◌, take}
use Rattle.world_core.specs.Runs.{world_of}
use Rattle.live_parts.specs.Dues.{deliveries_in}
use Rattle.live_parts.proofs.inbox.add_all_due.Given as goal

abbrev pub invariant-loop-i : goal.invariant-loop-i
invariant-loop-i l = l.due.items ≡ l.fn.due.items ++ deliveries_in (world_of l.world) l.actor (take l.i l.queue.items)
