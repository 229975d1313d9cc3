use Rattle.std.proofs.Common.{◌≡◌, ◌++◌, take, drop}
use Rattle.ops_window.specs.Feeding.{joined_totals}
use Rattle.ops_window.proofs.totals.join_in.Given as goal

abbrev pub invariant-loop-i : goal.invariant-loop-i
invariant-loop-i l = take l.i l.totals ++ joined_totals (drop l.i l.aggs) (drop l.i l.totals) (drop l.i l.others) ≡ joined_totals l.aggs l.fn.totals l.others
