use Rattle.law_sessions.proofs.Asked.{was-asked}
use Rattle.law_sessions.proofs.every_session_was_asked_for.Goals as goal

pub returns : goal.returns
returns c = was-asked
