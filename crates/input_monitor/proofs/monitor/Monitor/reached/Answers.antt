use Rattle.std.proofs.Common.{List, sym, subst}
use Rattle.dpc_model.specs.Replicas.{Watch}
use Rattle.input_monitor.specs.Marks.{AreUnmarked}
use Rattle.input_monitor.proofs.Marked.{unmarked-count}
use Rattle.input_monitor.proofs.monitor.Monitor.reached.Goals as goal

pub returns-else-self : goal.returns-else-self
returns-else-self c = sym (unmarked-count c.args.count c.args.self.now (subst (λ (ws : List Watch). AreUnmarked ws) c.self.view_is (c.self.invariant c.if-self.false)))
