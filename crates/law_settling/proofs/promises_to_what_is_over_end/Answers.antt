use Rattle.law_settling.proofs.Ending.{promises-end}
use Rattle.law_settling.proofs.promises_to_what_is_over_end.Goals as goal

pub returns : goal.returns
returns c = promises-end
