use Rattle.std.proofs.Common.{◌≡◌, None, drop}
use Rattle.ops_window.specs.Saving.{can_wait_from}
use Rattle.ops_window.proofs.saved.can_all_wait.Given as goal

abbrev pub invariant-loop-cell : goal.invariant-loop-cell
invariant-loop-cell l =
    can_wait_from l.size l.step l.column l.aggs l.end l.last (drop l.cell-index l.cells) ≡ can_wait_from l.size l.step l.column l.aggs l.end None l.cells
