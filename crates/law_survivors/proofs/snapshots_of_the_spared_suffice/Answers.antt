use Rattle.law_survivors.proofs.Laws.{snapshots-suffice}
use Rattle.law_survivors.proofs.snapshots_of_the_spared_suffice.Goals as goal

pub returns : goal.returns
returns c = snapshots-suffice
