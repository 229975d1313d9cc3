use Rattle.std.proofs.Common.{drop}
use Rattle.std.specs.List.{flat_map}
use Rattle.ops_join.specs.Sides.{row_at}
use Rattle.ops_join.proofs.Givings.{Gave}
use Rattle.ops_join.proofs.sides.Sides.give_pairs.Given as goal

abbrev pub invariant-loop-pair : goal.invariant-loop-pair
invariant-loop-pair g l =
    Gave (g.R.RowSink.took l.fn.sink l.fn.out) (g.R.RowSink.took l.sink l.out)
    (flat_map (row_at l.self.left l.self.right) (drop l.pair-index l.pairs)) (flat_map (row_at l.self.left l.self.right) l.pairs)
