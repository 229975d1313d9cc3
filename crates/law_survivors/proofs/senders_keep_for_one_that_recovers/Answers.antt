use Rattle.law_survivors.proofs.Recovering.{kept-recovering}
use Rattle.law_survivors.proofs.senders_keep_for_one_that_recovers.Goals as goal

pub returns : goal.returns
returns c = kept-recovering
