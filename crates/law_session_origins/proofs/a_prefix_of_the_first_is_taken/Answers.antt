use Rattle.law_session_origins.proofs.Opening.{first-prefix}
use Rattle.law_session_origins.proofs.a_prefix_of_the_first_is_taken.Goals as goal

pub returns : goal.returns
returns c = first-prefix
