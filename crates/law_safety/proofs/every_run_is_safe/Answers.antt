use Rattle.law_safety.proofs.Law.{run-safe}
use Rattle.law_safety.proofs.every_run_is_safe.Goals as goal

pub returns : goal.returns
returns c = run-safe
