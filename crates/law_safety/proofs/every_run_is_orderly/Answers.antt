use Rattle.law_safety.proofs.Law.{run-orderly}
use Rattle.law_safety.proofs.every_run_is_orderly.Goals as goal

pub returns : goal.returns
returns c = run-orderly
