use Rattle.law_buckets.proofs.Advancing.{undoing-keeps-stable}
use Rattle.law_buckets.proofs.laws.undoing_keeps_stable.Goals as goal

pub returns : goal.returns
returns c = undoing-keeps-stable
