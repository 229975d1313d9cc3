use Rattle.law_survivors.proofs.Laws.{senders-keep}
use Rattle.law_survivors.proofs.senders_keep_for_the_spared.Goals as goal

pub returns : goal.returns
returns c = senders-keep
