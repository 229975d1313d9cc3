use Rattle.std.proofs.Common.{◌≡◌, ℕ, cond, nat_lt, [], length}
use Rattle.dpc_lists.specs.Lists.{nth}
use Rattle.live_parts.specs.Inboxes.{opened}
use Rattle.live_parts.proofs.inboxes.open_all.Given as goal

-- the first of them are open
abbrev pub invariant-loop-to : goal.invariant-loop-to
invariant-loop-to l =
    (length l.boxes.items ≡ length l.initial.boxes.items)
    × ((t : ℕ) → nth [] l.boxes.items t ≡ cond (nat_lt t l.to) (opened t l.directives (nth [] l.initial.boxes.items t)) (nth [] l.initial.boxes.items t))
