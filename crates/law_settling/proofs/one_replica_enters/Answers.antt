use Rattle.law_settling.proofs.Reentering.{one-enters}
use Rattle.law_settling.proofs.one_replica_enters.Goals as goal

pub returns : goal.returns
returns c = one-enters
