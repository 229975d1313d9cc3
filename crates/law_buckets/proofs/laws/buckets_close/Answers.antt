use Rattle.law_buckets.proofs.Closing.{buckets-close}
use Rattle.law_buckets.proofs.laws.buckets_close.Goals as goal

pub returns : goal.returns
returns c = buckets-close
