use Rattle.law_session_origins.proofs.Opening.{first-opening}
use Rattle.law_session_origins.proofs.the_first_is_opened_by_the_opening.Goals as goal

pub returns : goal.returns
returns c = first-opening
