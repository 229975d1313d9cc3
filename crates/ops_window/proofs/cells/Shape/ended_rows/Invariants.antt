use Rattle.std.proofs.Common.{◌≡◌, ◌++◌, map}
use Rattle.ops_window.specs.Feeding.{row_of, ended_cells}
use Rattle.ops_window.proofs.cells.Shape.ended_rows.Given as goal

abbrev pub invariant-loop-key : goal.invariant-loop-key
invariant-loop-key l =
    l.rows.items ++ map (row_of l.self) (ended_cells l.self.size l.end l.key-iterator) ≡ l.fn.rows.items ++ map (row_of l.self) (ended_cells l.self.size l.end l.cells)
