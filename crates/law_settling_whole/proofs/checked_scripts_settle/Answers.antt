use Rattle.law_settling_whole.proofs.Whole.{checked-settles}
use Rattle.law_settling_whole.proofs.checked_scripts_settle.Goals as goal

pub returns : goal.returns
returns c = checked-settles
