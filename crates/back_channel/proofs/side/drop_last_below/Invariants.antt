use Rattle.std.proofs.Common.{◌≡◌, length, take}
use Rattle.back_channel.specs.Merging.{not_below}
use Rattle.back_channel.proofs.side.drop_last_below.Given as goal

abbrev pub invariant-loop-last : goal.invariant-loop-last
invariant-loop-last l = record {
  kept : not_below l.time l.tuples.items ≡ not_below l.time l.fn.tuples.items;
  begins : l.tuples.items ≡ take (length l.tuples.items) l.fn.tuples.items;
}

abbrev pub decreases-loop-last : goal.decreases-loop-last
decreases-loop-last l = length l.tuples.items
