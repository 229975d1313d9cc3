use Rattle.std.proofs.Common.{◌≡◌}
use Rattle.dpc_model.specs.Sessions.{with_session_shut}
use Rattle.dpc_lists.proofs.Mapped.{mapped_to}
use Rattle.soutput.proofs.batches.shut_all.Given as goal

-- so many sessions are shut
abbrev pub invariant-loop-session : goal.invariant-loop-session
invariant-loop-session l = l.sessions ≡ mapped_to with_session_shut l.session-index l.fn.sessions
