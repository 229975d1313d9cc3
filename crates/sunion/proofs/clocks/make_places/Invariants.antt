use Rattle.std.proofs.Common.{ℕ, ◌≡◌, ◌+◌, ◌-◌, length}
use Rattle.sunion.specs.Clocks.{stamps_from}
use Rattle.sunion.proofs.clocks.make_places.Given as goal

-- places that say nothing were added
abbrev pub invariant-loop-clocks : goal.invariant-loop-clocks
invariant-loop-clocks l = (first : ℕ) → stamps_from first l.clocks.items ≡ stamps_from first l.fn.clocks.items

abbrev pub decreases-loop-clocks : goal.decreases-loop-clocks
decreases-loop-clocks l = l.place + 1 - length l.clocks.items
