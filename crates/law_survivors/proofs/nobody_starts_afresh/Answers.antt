use Rattle.law_survivors.proofs.Afresh.{none-afresh}
use Rattle.law_survivors.proofs.nobody_starts_afresh.Goals as goal

pub returns : goal.returns
returns c = none-afresh
