use Rattle.law_settling.proofs.Finishes.{whole-replicas-finish}
use Rattle.law_settling.proofs.whole_replicas_finish.Goals as goal

pub returns : goal.returns
returns c = whole-replicas-finish
