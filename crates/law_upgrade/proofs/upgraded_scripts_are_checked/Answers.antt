use Rattle.law_scripts.proofs.UpgradedRanges.{upgraded-checked}
use Rattle.law_upgrade.proofs.upgraded_scripts_are_checked.Goals as goal

pub returns : goal.returns
returns c = upgraded-checked
