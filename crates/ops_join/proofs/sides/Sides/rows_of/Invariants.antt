use Rattle.std.proofs.Common.{◌≡◌, take}
use Rattle.std.specs.List.{flat_map}
use Rattle.ops_join.specs.Sides.{row_at}
use Rattle.ops_join.proofs.sides.Sides.rows_of.Given as goal

abbrev pub invariant-loop-pair : goal.invariant-loop-pair
invariant-loop-pair l = l.rows.items ≡ flat_map (row_at l.self.left l.self.right) (take l.pair-index l.pairs)
