use Rattle.std.proofs.Common.{◌≡◌, drop}
use Rattle.sunion.proofs.clocks.drop_places.Given as goal

-- without those that are still to go it is what is to be left
abbrev pub invariant-loop-left : goal.invariant-loop-left
invariant-loop-left l = drop l.left l.clocks.items ≡ drop l.count l.fn.clocks.items

abbrev pub decreases-loop-left : goal.decreases-loop-left
decreases-loop-left l = l.left
