use Rattle.law_settling.proofs.Sources.{reader-has-log}
use Rattle.law_settling.proofs.a_reader_that_rests_has_its_logs.Goals as goal

pub returns : goal.returns
returns c = reader-has-log
