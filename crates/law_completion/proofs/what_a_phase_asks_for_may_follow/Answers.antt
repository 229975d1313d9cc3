use Rattle.law_completion.proofs.Completing.{behind-follow, behind-complete}
use Rattle.law_completion.proofs.what_a_phase_asks_for_may_follow.Goals as goal

pub returns : goal.returns
returns c = record { follow = behind-follow; complete = behind-complete }
