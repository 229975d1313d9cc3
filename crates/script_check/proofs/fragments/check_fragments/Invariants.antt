use Rattle.script_check.proofs.Operating.{AreFragsTo}
use Rattle.script_check.proofs.fragments.check_fragments.Given as goal

abbrev pub invariant-loop-i : goal.invariant-loop-i
invariant-loop-i l = AreFragsTo l.plan l.line l.frags l.i l.columns.items l.next
