use Rattle.law_settling_scripts.proofs.Can.{can_settle}
use Rattle.law_settling_scripts.proofs.a_checked_script_can_settle.Goals as goal

pub returns : goal.returns
returns c = can_settle
