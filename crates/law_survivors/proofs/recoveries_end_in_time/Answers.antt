use Rattle.law_survivors.proofs.InTime.{ends-in-time}
use Rattle.law_survivors.proofs.recoveries_end_in_time.Goals as goal

pub returns : goal.returns
returns c = ends-in-time
