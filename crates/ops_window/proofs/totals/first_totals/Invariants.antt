use Rattle.std.proofs.Common.{◌≡◌, map, take}
use Rattle.ops_window.specs.Feeding.{first_total}
use Rattle.ops_window.proofs.totals.first_totals.Given as goal

abbrev pub invariant-loop-agg : goal.invariant-loop-agg
invariant-loop-agg l = l.numbers.items ≡ map (first_total l.tuple) (take l.agg-index l.aggs)
