use Rattle.law_lockstep.proofs.Heard.{lock-hears}
use Rattle.law_lockstep.proofs.a_reader_that_rests_hears_every_beat.Goals as goal

pub returns : goal.returns
returns c = lock-hears
