use Rattle.law_completion.proofs.Completing.{finishing-live, goes-on}
use Rattle.law_completion.proofs.journals_can_go_on_to_the_end.Goals as goal

pub returns : goal.returns
returns c = record { finishes = finishing-live; begins = goes-on }
