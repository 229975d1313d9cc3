use Rattle.law_survivors.proofs.Together.{recovers-together}
use Rattle.law_survivors.proofs.recoveries_of_a_replica_lie_together.Goals as goal

pub returns : goal.returns
returns c = recovers-together
