use Rattle.law_settling.proofs.ReplicasFinish.{replicas-finish}
use Rattle.law_settling.proofs.all_replicas_finish.Goals as goal

pub returns : goal.returns
returns c = replicas-finish
