use Rattle.std.proofs.Common.{◌≡◌, ◌-◌, ◌*◌}
use Rattle.std.specs.List.{fold, range_with_len}
use Rattle.ops_window.specs.Windows.{group_of}
use Rattle.ops_window.specs.Feeding.{take_cell}
use Rattle.ops_window.proofs.cells.Shape.take_tuple.Given as goal

abbrev pub invariant-loop-number : goal.invariant-loop-number
invariant-loop-number l =
    l.cells ≡ fold (λ cs j. take_cell l.self.aggs l.tuple cs (j * l.self.step, group_of l.self.group l.tuple)) l.fn.cells (range_with_len l.first (l.number - l.first))
