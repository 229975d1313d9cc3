use Rattle.script_check.proofs.Clienting.{AreClientsTo}
use Rattle.script_check.proofs.clients.check_clients.Given as goal

abbrev pub invariant-loop-i : goal.invariant-loop-i
invariant-loop-i l = AreClientsTo l.plan l.line l.clients l.i l.next
