use Rattle.law_settling.proofs.Sources.{sources-read}
use Rattle.law_settling.proofs.sources_are_read.Goals as goal

pub returns : goal.returns
returns c = sources-read
