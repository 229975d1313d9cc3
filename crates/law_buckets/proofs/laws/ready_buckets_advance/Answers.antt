use Rattle.law_buckets.proofs.Advancing.{ready-buckets-advance}
use Rattle.law_buckets.proofs.laws.ready_buckets_advance.Goals as goal

pub returns : goal.returns
returns c = ready-buckets-advance
