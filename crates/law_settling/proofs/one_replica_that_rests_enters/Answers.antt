use Rattle.law_settling.proofs.Reentering.{one-resting-enters}
use Rattle.law_settling.proofs.one_replica_that_rests_enters.Goals as goal

pub returns : goal.returns
returns c = one-resting-enters
