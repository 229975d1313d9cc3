use Rattle.law_upgrade.proofs.Checked.{stays-checked, was-checked}
use Rattle.law_upgrade.proofs.upgraded_plans_are_checked_as_before.Goals as goal

pub returns : goal.returns
returns c = record { stays = stays-checked; was = was-checked }
