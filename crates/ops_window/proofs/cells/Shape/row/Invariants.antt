use Rattle.std.proofs.Common.{◌≡◌, ◌++◌, take}
use Rattle.ops_window.specs.Feeding.{group_values, finished_totals}
use Rattle.ops_window.proofs.cells.Shape.row.Given as goal

abbrev pub invariant-loop-i : goal.invariant-loop-i
invariant-loop-i l = l.vals ≡ group_values l.self.group l.group ++ finished_totals (take l.i l.aggs) (take l.i l.totals)
