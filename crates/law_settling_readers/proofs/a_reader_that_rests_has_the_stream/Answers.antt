use Rattle.law_settling_readers.proofs.Laws.{resting-readers-law}
use Rattle.law_settling_readers.proofs.a_reader_that_rests_has_the_stream.Goals as goal

pub returns : goal.returns
returns c = resting-readers-law
