use Rattle.law_survivors.proofs.Laws.{hear-whole}
use Rattle.law_survivors.proofs.the_spared_are_heard_whole.Goals as goal

pub returns : goal.returns
returns c = hear-whole
