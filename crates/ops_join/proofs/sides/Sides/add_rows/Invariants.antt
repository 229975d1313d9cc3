use Rattle.std.proofs.Common.{◌≡◌, ◌<◌, ◌++◌, map, reverse, length}
use Rattle.std.specs.List.{AllByRecursion}
use Rattle.dpc_model.specs.Operators.{paired}
use Rattle.ops_join.specs.Sides.{at_places}
use Rattle.ops_join.proofs.sides.Sides.add_rows.Given as goal

abbrev pub invariant-loop-place : goal.invariant-loop-place
invariant-loop-place l = record {
  inside : AllByRecursion (λ p. p < length l.self.right) (reverse l.places.items);
  rows : l.rows.items ++ map (paired l.left) (at_places l.self.right (reverse l.places.items))
      ≡ l.initial.rows.items ++ map (paired l.left) (at_places l.self.right (reverse l.initial.places.items));
}

abbrev pub decreases-loop-place : goal.decreases-loop-place
decreases-loop-place l = length l.places.items
