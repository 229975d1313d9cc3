use Rattle.law_session_origins.proofs.Shut.{stays-shut}
use Rattle.law_session_origins.proofs.the_first_is_not_opened_again.Goals as goal

pub returns : goal.returns
returns c = stays-shut
