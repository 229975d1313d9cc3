use Rattle.law_completion.proofs.Completing.{completing-follow, completing-complete}
use Rattle.law_completion.proofs.phases_can_be_completed.Goals as goal

pub returns : goal.returns
returns c = record { follow = completing-follow; complete = completing-complete }
