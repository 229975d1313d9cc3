use Rattle.script_check.proofs.Operating.{AreOpsTo}
use Rattle.script_check.proofs.operators.Place.check_operators.Given as goal

abbrev pub invariant-loop-i : goal.invariant-loop-i
invariant-loop-i l = AreOpsTo l.self.plan.now l.self.before.now l.self.columns.now l.self.frag.now l.line l.ops l.i l.outs.items l.next
