use Rattle.law_settling_whole.proofs.Whole.{crashless-settles}
use Rattle.law_settling_whole.proofs.a_script_that_crashes_nobody_settles.Goals as goal

pub returns : goal.returns
returns c = crashless-settles
