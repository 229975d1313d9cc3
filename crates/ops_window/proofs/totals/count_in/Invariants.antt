use Rattle.std.proofs.Common.{◌≡◌, ◌++◌, take, drop}
use Rattle.ops_window.specs.Feeding.{next_totals}
use Rattle.ops_window.proofs.totals.count_in.Given as goal

abbrev pub invariant-loop-i : goal.invariant-loop-i
invariant-loop-i l = take l.i l.totals ++ next_totals l.tuple (drop l.i l.aggs) (drop l.i l.totals) ≡ next_totals l.tuple l.aggs l.fn.totals
