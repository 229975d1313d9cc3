use Rattle.std.proofs.Common.{◌≡◌, take}
use Rattle.ops_join.proofs.side.Side.same.Given as goal

abbrev pub invariant-loop-i : goal.invariant-loop-i
invariant-loop-i l = take l.i l.self.tuples.items ≡ take l.i l.other.tuples.items
