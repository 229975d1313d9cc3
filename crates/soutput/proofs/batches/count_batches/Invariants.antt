use Rattle.std.proofs.Common.{◌≡◌}
use Rattle.soutput.proofs.BatchLists.{counted_to}
use Rattle.soutput.proofs.batches.count_batches.Given as goal

abbrev pub invariant-loop-session : goal.invariant-loop-session
invariant-loop-session l = l.sessions ≡ counted_to l.session-index l.fn.sessions
