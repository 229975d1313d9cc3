use Rattle.std.proofs.Common.{◌<◌, map, reverse, length}
use Rattle.std.specs.List.{AllByRecursion}
use Rattle.dpc_model.specs.Operators.{paired}
use Rattle.ops_join.specs.Sides.{at_places}
use Rattle.ops_join.proofs.Givings.{Gave}
use Rattle.ops_join.proofs.sides.Sides.give_partners.Given as goal

abbrev pub invariant-loop-place : goal.invariant-loop-place
invariant-loop-place g l = record {
  inside : AllByRecursion (λ p. p < length l.self.right) (reverse l.places.items);
  gave : Gave (g.R.RowSink.took l.fn.sink l.fn.out) (g.R.RowSink.took l.sink l.out)
      (map (paired l.left) (at_places l.self.right (reverse l.places.items))) (map (paired l.left) (at_places l.self.right (reverse l.fn.places.items)));
}

abbrev pub decreases-loop-place : goal.decreases-loop-place
decreases-loop-place g l = length l.places.items
