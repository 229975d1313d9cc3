use Rattle.law_survivors.proofs.Fragmentwise.{fragments-finish}
use Rattle.law_survivors.proofs.all_fragments_finish.Goals as goal

pub returns : goal.returns
returns c = fragments-finish
