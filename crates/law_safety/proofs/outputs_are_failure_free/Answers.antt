use Rattle.law_safety.proofs.Promises.{outputs-right}
use Rattle.law_safety.proofs.outputs_are_failure_free.Goals as goal

pub returns : goal.returns
returns c = outputs-right
