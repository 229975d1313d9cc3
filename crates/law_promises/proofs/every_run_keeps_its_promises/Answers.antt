use Rattle.law_promises.proofs.Kept.{promises-kept}
use Rattle.law_promises.proofs.every_run_keeps_its_promises.Goals as goal

pub returns : goal.returns
returns c = promises-kept
