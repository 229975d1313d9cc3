use Rattle.script_check.proofs.Running.{ArePhasesTo}
use Rattle.script_check.proofs.directives.check_phases.Given as goal

abbrev pub invariant-loop-i : goal.invariant-loop-i
invariant-loop-i l = ArePhasesTo l.plan l.line l.phases l.i l.next
