use Rattle.law_settling.proofs.ReplicasFinish.{resting-finish}
use Rattle.law_settling.proofs.replicas_that_rest_finish.Goals as goal

pub returns : goal.returns
returns c = resting-finish
