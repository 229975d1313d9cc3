use Rattle.std.proofs.Common.{List, sym, subst}
use Rattle.dpc_model.specs.Replicas.{Watch}
use Rattle.input_monitor.specs.Marks.{AreUnmarked}
use Rattle.input_monitor.proofs.Marked.{unmarked-new}
use Rattle.input_monitor.proofs.monitor.Monitor.new.Goals as goal

pub invariant_of-result : goal.invariant_of-result
invariant_of-result c = λ e. subst (λ (ws : List Watch). AreUnmarked ws) (sym c.loop.invariant) (unmarked-new c.loop.counter)
