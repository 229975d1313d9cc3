use Rattle.std.proofs.Common.{◌≡◌, [], drop}
use Rattle.std.specs.List.{flat_map}
use Rattle.dpc_model.specs.Operators.{pairs_with}
use Rattle.ops_join.proofs.Givings.{Gave}
use Rattle.ops_join.proofs.sides.Sides.give_left.Given as goal

abbrev pub invariant-loop-i : goal.invariant-loop-i
invariant-loop-i g l = record {
  places : l.places.items ≡ [];
  gave : Gave (g.R.RowSink.took l.fn.sink l.fn.out) (g.R.RowSink.took l.sink l.out)
      (flat_map (pairs_with l.within l.self.keys l.self.right) (drop l.i l.left.items)) (flat_map (pairs_with l.within l.self.keys l.self.right) (drop l.from l.left.items));
}
