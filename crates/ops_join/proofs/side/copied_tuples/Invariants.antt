use Rattle.std.proofs.Common.{◌≡◌, take}
use Rattle.ops_join.proofs.side.copied_tuples.Given as goal

abbrev pub invariant-loop-i : goal.invariant-loop-i
invariant-loop-i l = l.copies.items ≡ take l.i l.tuples.items
