use Rattle.law_survivors.proofs.Running.{spared-run}
use Rattle.law_survivors.proofs.the_spared_never_recover.Goals as goal

pub returns : goal.returns
returns c = λ script events can live x g b role spared. (spared-run script events can live x g b role spared).stands
