use Rattle.law_calm.proofs.Running.{none-recovers}
use Rattle.law_calm.proofs.without_crashes_none_recovers.Goals as goal

pub returns : goal.returns
returns c = λ plan events checked none. none-recovers plan checked events none
