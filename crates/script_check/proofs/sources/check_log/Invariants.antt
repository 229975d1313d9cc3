use Rattle.script_check.proofs.Logs.{IsJudgedTo}
use Rattle.script_check.proofs.sources.check_log.Given as goal

abbrev pub invariant-loop-i : goal.invariant-loop-i
invariant-loop-i l = IsJudgedTo l.bounds.end l.bounds.columns l.bounds.room l.line l.log l.i l.last l.next
