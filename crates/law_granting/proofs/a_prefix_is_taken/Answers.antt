use Rattle.law_granting.proofs.First.{prefix-taken}
use Rattle.law_granting.proofs.a_prefix_is_taken.Goals as goal

pub returns : goal.returns
returns c = prefix-taken
