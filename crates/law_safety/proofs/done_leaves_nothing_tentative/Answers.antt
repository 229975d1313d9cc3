use Rattle.law_safety.proofs.Promises.{done-leaves-nothing}
use Rattle.law_safety.proofs.done_leaves_nothing_tentative.Goals as goal

pub returns : goal.returns
returns c = done-leaves-nothing
