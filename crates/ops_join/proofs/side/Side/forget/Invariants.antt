use Rattle.std.proofs.Common.{◌≡◌, length}
use Rattle.dpc_model.specs.Streams.{InOrder}
use Rattle.ops_join.specs.Joins.{kept_from}
use Rattle.ops_join.specs.Keeping.{StaysIndexed}
use Rattle.ops_join.proofs.side.Side.forget.Given as goal

abbrev pub invariant-loop-self : goal.invariant-loop-self
invariant-loop-self l = record {
  tuples : kept_from l.within l.begin l.self.tuples.items ≡ kept_from l.within l.begin l.initial.self.tuples.items;
  order : InOrder l.self.tuples.items;
  indexed : StaysIndexed l.initial.self l.self;
}

abbrev pub decreases-loop-self : goal.decreases-loop-self
decreases-loop-self l = length l.self.tuples.items
