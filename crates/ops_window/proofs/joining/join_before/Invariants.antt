use Rattle.std.proofs.Common.{◌≡◌}
use Rattle.std.specs.List.{fold}
use Rattle.ops_window.specs.Feeding.{join_cell, cells_before}
use Rattle.ops_window.proofs.joining.join_before.Given as goal

abbrev pub invariant-loop-key : goal.invariant-loop-key
invariant-loop-key l =
    fold (join_cell l.aggs l.begin) l.window (cells_before l.end l.key-iterator) ≡ fold (join_cell l.aggs l.begin) l.fn.window (cells_before l.end l.cells)
