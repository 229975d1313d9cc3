use Rattle.law_settling.proofs.Deliveries.{delivers-waiting}
use Rattle.law_settling.proofs.what_waits_is_delivered.Goals as goal

pub returns : goal.returns
returns c = delivers-waiting
