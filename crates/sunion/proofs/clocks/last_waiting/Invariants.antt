use Rattle.std.proofs.Common.{◌≡◌, ◌≤◌, ◌-◌, length}
use Rattle.dpc_lists.specs.Lists.{last_below}
use Rattle.sunion.proofs.Stamping.{is_waiting}
use Rattle.sunion.proofs.clocks.last_waiting.Given as goal

-- no place past the end waits so long
abbrev pub invariant-loop-end : goal.invariant-loop-end
invariant-loop-end l =
    (l.end ≤ length l.clocks.items) × (last_below (is_waiting l.clocks.items l.from l.delay l.now) l.end ≡ last_below (is_waiting l.clocks.items l.from l.delay l.now) l.fn.end)

abbrev pub decreases-loop-end : goal.decreases-loop-end
decreases-loop-end l = l.end - l.from
