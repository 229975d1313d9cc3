use Rattle.std.proofs.Common.{◌≡◌, take}
use Rattle.live_parts.specs.Inboxes.{opened}
use Rattle.live_parts.proofs.inbox.all_due.Given as goal

abbrev pub invariant-loop-i : goal.invariant-loop-i
invariant-loop-i l = l.due.items ≡ opened l.to l.directives (take l.i l.queue.items)
