use Rattle.law_upgrade.proofs.Events.{happens-same}
use Rattle.law_upgrade.proofs.upgraded_events_are_the_same.Goals as goal

pub returns : goal.returns
returns c = happens-same
