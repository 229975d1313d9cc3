use Rattle.law_completion.proofs.Completing.{targets-reached}
use Rattle.law_completion.proofs.targets_stay_within_reach.Goals as goal

pub returns : goal.returns
returns c = targets-reached
