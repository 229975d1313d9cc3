use Rattle.script_check.proofs.AllSources.{AreJudgedTo}
use Rattle.script_check.proofs.sources.check_sources.Given as goal

abbrev pub invariant-loop-i : goal.invariant-loop-i
invariant-loop-i l = AreJudgedTo l.plan l.line l.sources l.i l.room l.next
