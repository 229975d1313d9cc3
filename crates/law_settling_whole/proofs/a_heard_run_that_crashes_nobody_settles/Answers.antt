use Rattle.law_settling_whole.proofs.Whole.{heard-settles}
use Rattle.law_settling_whole.proofs.a_heard_run_that_crashes_nobody_settles.Goals as goal

pub returns : goal.returns
returns c = heard-settles
