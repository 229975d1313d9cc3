use Rattle.law_survivors.proofs.Laws.{knows-presently}
use Rattle.law_survivors.proofs.acknowledgements_are_of_the_present_incarnation.Goals as goal

pub returns : goal.returns
returns c = knows-presently
