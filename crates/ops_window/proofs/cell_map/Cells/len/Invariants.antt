use Rattle.std.proofs.Common.{◌≡◌, ◌+◌, ◌-◌, ◌^◌, ◌<◌, length, min}
use Rattle.ops_window.specs.Windows.{cells_of_panes}
use Rattle.ops_window.proofs.cell_map.Cells.len.Given as goal

abbrev pub invariant-loop-pane : goal.invariant-loop-pane
invariant-loop-pane l = record {
  sum : min (l.count + length (cells_of_panes l.pane-iterator)) (2 ^ 64 - 1) ≡ min (length l.self) (2 ^ 64 - 1);
  fits : l.count < 2 ^ 64;
}
