use Rattle.law_promises.proofs.Kept.{next-safe}
use Rattle.law_promises.proofs.the_next_event_keeps_its_promises.Goals as goal

pub returns : goal.returns
returns c = next-safe
