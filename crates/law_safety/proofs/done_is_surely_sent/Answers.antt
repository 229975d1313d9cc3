use Rattle.law_safety.proofs.Promises.{done-surely-sent}
use Rattle.law_safety.proofs.done_is_surely_sent.Goals as goal

pub returns : goal.returns
returns c = done-surely-sent
