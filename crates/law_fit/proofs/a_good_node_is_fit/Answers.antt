use Rattle.law_fit.proofs.FitWorlds.{node-fit}
use Rattle.law_fit.proofs.a_good_node_is_fit.Goals as goal

pub returns : goal.returns
returns c = node-fit
