use Rattle.std.proofs.Common.{◌≡◌, ◌++◌, [], drop}
use Rattle.dpc_model.specs.Operators.{are_partners}
use Rattle.ops_join.specs.Sides.{pairs_by_right}
use Rattle.ops_join.proofs.sides.Sides.few_late_pairs.Given as goal

abbrev pub invariant-loop-i : goal.invariant-loop-i
invariant-loop-i l = record {
  places : l.places.items ≡ [];
  pairs : l.pairs.items ++ pairs_by_right (are_partners l.within l.self.keys) l.self.left l.i (drop l.i l.self.right)
      ≡ pairs_by_right (are_partners l.within l.self.keys) l.self.left l.from (drop l.from l.self.right);
}
