use Rattle.law_settling_whole.proofs.Whole.{healed-settles}
use Rattle.law_settling_whole.proofs.a_script_that_heals_settles.Goals as goal

pub returns : goal.returns
returns c = healed-settles
