use Rattle.law_session_origins.proofs.Stood.{taken-stood}
use Rattle.law_session_origins.proofs.taken_tentative_tuples_stood.Goals as goal

pub returns : goal.returns
returns c = taken-stood
