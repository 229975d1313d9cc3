use Rattle.law_safety.proofs.Promises.{readers-right}
use Rattle.law_safety.proofs.readers_hold_a_beginning.Goals as goal

pub returns : goal.returns
returns c = readers-right
