use Rattle.std.proofs.Common.{◌≡◌, ◌++◌, map, take}
use Rattle.dpc_model.specs.Operators.{total_of}
use Rattle.trial_ideal.proofs.windows.push_totals.Given as goal

abbrev pub invariant-loop-agg : goal.invariant-loop-agg
invariant-loop-agg l = l.vals ≡ l.initial.vals ++ map (total_of l.tuples) (take l.agg-index l.aggs)
