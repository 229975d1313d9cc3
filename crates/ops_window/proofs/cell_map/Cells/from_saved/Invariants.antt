use Rattle.std.proofs.Common.{◌≡◌, take}
use Rattle.ops_window.specs.Saving.{all_kept}
use Rattle.ops_window.proofs.cell_map.Cells.from_saved.Given as goal

abbrev pub invariant-loop-cell : goal.invariant-loop-cell
invariant-loop-cell l = l.cells ≡ all_kept (take l.cell-index l.saved)
