use Rattle.law_survivors.proofs.Standing.{stands-once-ticked}
use Rattle.law_survivors.proofs.who_goes_on_from_a_good_snapshot_stands_once_it_ticks.Goals as goal

pub returns : goal.returns
returns c = stands-once-ticked
