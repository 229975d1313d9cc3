use Rattle.std.proofs.Common.{◌≡◌, ◌*◌, ◌-◌, ◌≤◌, ◌++◌}
use Rattle.dpc_model.specs.Operators.{window_count}
use Rattle.ops_window.specs.Feeding.{pane_rows_of, cells_behind}
use Rattle.ops_window.proofs.cells.Shape.take_windows.Given as goal

abbrev pub invariant-windows : goal.invariant-windows
invariant-windows l = record {
  rows : l.rows.items ++ pane_rows_of l.self l.number l.end l.fn.cells ≡ l.fn.rows.items ++ pane_rows_of l.self l.first l.end l.fn.cells;
  cells : l.cells ≡ cells_behind (l.number * l.self.step) l.fn.cells;
  below : l.number ≤ window_count l.self.size l.self.step l.end;
}

abbrev pub decreases-windows : goal.decreases-windows
decreases-windows l = l.behind - l.number
