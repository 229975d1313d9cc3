use Rattle.law_session_origins.proofs.Stood.{all-taken-stood}
use Rattle.law_session_origins.proofs.all_taken_tentative_tuples_stood.Goals as goal

pub returns : goal.returns
returns c = all-taken-stood
