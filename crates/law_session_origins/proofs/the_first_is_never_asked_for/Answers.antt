use Rattle.law_session_origins.proofs.FirstSession.{never-asked}
use Rattle.law_session_origins.proofs.the_first_is_never_asked_for.Goals as goal

pub returns : goal.returns
returns c = never-asked
