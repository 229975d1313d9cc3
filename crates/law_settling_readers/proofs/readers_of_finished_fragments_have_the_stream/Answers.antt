use Rattle.law_settling_readers.proofs.Laws.{readers-law}
use Rattle.law_settling_readers.proofs.readers_of_finished_fragments_have_the_stream.Goals as goal

pub returns : goal.returns
returns c = readers-law
