use Rattle.law_granting.proofs.Taking.{run-taken}
use Rattle.law_granting.proofs.batches_are_taken_in_order.Goals as goal

pub returns : goal.returns
returns c = run-taken
