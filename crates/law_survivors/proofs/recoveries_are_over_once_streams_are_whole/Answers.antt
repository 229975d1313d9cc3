use Rattle.law_survivors.proofs.Holding.{rests-once-whole}
use Rattle.law_survivors.proofs.recoveries_are_over_once_streams_are_whole.Goals as goal

pub returns : goal.returns
returns c = rests-once-whole
