use Rattle.script_check.proofs.Running.{AreDirectivesTo}
use Rattle.script_check.proofs.directives.check_directives.Given as goal

abbrev pub invariant-loop-i : goal.invariant-loop-i
invariant-loop-i l = AreDirectivesTo l.plan l.before l.line l.directives l.i l.next
