use Rattle.std.proofs.Common.{◌≡◌, ◌++◌}
use Rattle.ops_window.specs.Saving.{all_saved}
use Rattle.ops_window.proofs.cell_map.Cells.saved.Given as goal

abbrev pub invariant-loop-key : goal.invariant-loop-key
invariant-loop-key l = l.saved.items ++ all_saved l.key-iterator ≡ all_saved l.self
