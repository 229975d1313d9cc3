use Rattle.law_session_origins.proofs.RoleNumbers.{has-numbers}
use Rattle.law_session_origins.proofs.actors_have_numbers.Goals as goal

pub returns : goal.returns
returns c = has-numbers
