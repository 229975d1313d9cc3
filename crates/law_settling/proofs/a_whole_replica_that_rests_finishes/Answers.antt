use Rattle.law_settling.proofs.Finishes.{resting-finishes}
use Rattle.law_settling.proofs.a_whole_replica_that_rests_finishes.Goals as goal

pub returns : goal.returns
returns c = resting-finishes
