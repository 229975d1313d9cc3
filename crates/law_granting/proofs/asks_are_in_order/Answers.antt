use Rattle.law_granting.proofs.Running.{run-order}
use Rattle.law_granting.proofs.asks_are_in_order.Goals as goal

pub returns : goal.returns
returns c = run-order
