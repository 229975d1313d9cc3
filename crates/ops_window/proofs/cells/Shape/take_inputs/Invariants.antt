use Rattle.std.proofs.Common.{◌≡◌, take}
use Rattle.dpc_model.specs.Fragments.{at_port}
use Rattle.ops_window.specs.Windows.{reach}
use Rattle.ops_window.specs.Feeding.{take_tuples}
use Rattle.ops_window.proofs.cells.Shape.take_inputs.Given as goal

abbrev pub invariant-loop-x : goal.invariant-loop-x
invariant-loop-x l =
    l.cells ≡ take_tuples (reach l.self.size l.self.step) l.self.step l.self.group l.self.aggs l.fn.cells (at_port 0 (take l.x-index l.inputs))
