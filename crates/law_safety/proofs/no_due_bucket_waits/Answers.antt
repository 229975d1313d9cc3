use Rattle.law_safety.proofs.Promises.{none-waits}
use Rattle.law_safety.proofs.no_due_bucket_waits.Goals as goal

pub returns : goal.returns
returns c = none-waits
