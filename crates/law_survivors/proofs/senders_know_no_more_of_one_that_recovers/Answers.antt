use Rattle.law_survivors.proofs.Laws.{know-no-more}
use Rattle.law_survivors.proofs.senders_know_no_more_of_one_that_recovers.Goals as goal

pub returns : goal.returns
returns c = know-no-more
