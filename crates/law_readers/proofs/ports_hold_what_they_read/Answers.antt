use Rattle.law_readers.proofs.Steps.{ports-have-read}
use Rattle.law_readers.proofs.ports_hold_what_they_read.Goals as goal

pub returns : goal.returns
returns c = ports-have-read
