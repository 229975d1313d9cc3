use Rattle.law_settling.proofs.Firsts.{first-fragments-finish}
use Rattle.law_settling.proofs.first_fragments_finish.Goals as goal

pub returns : goal.returns
returns c = first-fragments-finish
