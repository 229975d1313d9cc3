use Rattle.law_survivors.proofs.Twice.{none-twice}
use Rattle.law_survivors.proofs.no_replica_begins_twice_to_recover.Goals as goal

pub returns : goal.returns
returns c = none-twice
