use Rattle.std.proofs.Common.{◌≡◌, length, take}
use Rattle.ops_join.specs.Sides.{IsIndexOf}
use Rattle.ops_join.proofs.side.Side.linked.Given as goal

abbrev pub invariant-loop-i : goal.invariant-loop-i
invariant-loop-i l = record {
  slots : length l.chains.heads.items ≡ l.slots;
  indexed : IsIndexOf l.end l.keys l.self.first (take l.i l.self.tuples.items) l.chains.heads.items l.chains.before.items;
}
