use Rattle.law_survivors.proofs.Laws.{not-refused}
use Rattle.law_survivors.proofs.the_spared_are_not_refused.Goals as goal

pub returns : goal.returns
returns c = not-refused
