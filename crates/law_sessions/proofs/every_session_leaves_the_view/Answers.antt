use Rattle.law_sessions.proofs.Runs.{run-law}
use Rattle.law_sessions.proofs.every_session_leaves_the_view.Goals as goal

pub returns : goal.returns
returns c = run-law
