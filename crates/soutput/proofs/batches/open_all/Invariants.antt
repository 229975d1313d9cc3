use Rattle.std.proofs.Common.{◌≡◌}
use Rattle.dpc_model.specs.Sessions.{opening_session}
use Rattle.dpc_lists.proofs.Mapped.{mapped_to}
use Rattle.soutput.proofs.batches.open_all.Given as goal

-- so many sessions are opened
abbrev pub invariant-loop-session : goal.invariant-loop-session
invariant-loop-session l = l.sessions ≡ mapped_to (λ _. opening_session) l.session-index l.fn.sessions
