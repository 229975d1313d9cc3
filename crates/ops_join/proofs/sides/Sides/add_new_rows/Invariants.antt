use Rattle.std.proofs.Common.{◌≡◌, ◌++◌, [], take, drop}
use Rattle.std.specs.List.{flat_map}
use Rattle.dpc_model.specs.Operators.{pairs_with}
use Rattle.ops_join.proofs.sides.Sides.add_new_rows.Given as goal

abbrev pub invariant-loop-i : goal.invariant-loop-i
invariant-loop-i l = record {
  places : l.places.items ≡ [];
  rows : l.rows.items ≡ l.initial.rows.items ++ flat_map (pairs_with l.within l.self.keys l.self.right) (drop l.from (take l.i l.self.left));
}
