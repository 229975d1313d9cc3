use Rattle.law_sessions.proofs.Invented.{none-invented}
use Rattle.law_sessions.proofs.no_tuple_is_invented.Goals as goal

pub returns : goal.returns
returns c = none-invented
