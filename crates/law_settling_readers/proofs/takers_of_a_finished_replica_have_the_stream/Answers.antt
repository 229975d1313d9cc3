use Rattle.law_settling_readers.proofs.Laws.{takers-law}
use Rattle.law_settling_readers.proofs.takers_of_a_finished_replica_have_the_stream.Goals as goal

pub returns : goal.returns
returns c = takers-law
