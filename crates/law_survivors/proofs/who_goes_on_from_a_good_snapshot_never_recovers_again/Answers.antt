use Rattle.law_survivors.proofs.Never.{never-again}
use Rattle.law_survivors.proofs.who_goes_on_from_a_good_snapshot_never_recovers_again.Goals as goal

pub returns : goal.returns
returns c = never-again
