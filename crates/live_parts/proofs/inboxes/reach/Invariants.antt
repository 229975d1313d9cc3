use Rattle.std.proofs.Common.{◌≡◌, ◌≤◌, ℕ, [], length}
use Rattle.dpc_lists.specs.Lists.{nth}
use Rattle.live_parts.proofs.inboxes.reach.Given as goal

abbrev pub invariant-loop : goal.invariant-loop
invariant-loop l = (l.counter ≤ length l.boxes.items) × ((t : ℕ) → nth [] l.boxes.items t ≡ nth [] l.initial.boxes.items t)
