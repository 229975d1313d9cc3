use Rattle.std.proofs.Common.{◌≡◌, take}
use Rattle.fragment_mill.proofs.states.listed.Given as goal

abbrev pub invariant-loop-i : goal.invariant-loop-i
invariant-loop-i l = l.copies.items ≡ take l.i l.tuples.items
