use Rattle.law_completion.proofs.Completing.{directives-follow, directives-done}
use Rattle.law_completion.proofs.the_directives_may_follow.Goals as goal

pub returns : goal.returns
returns c = record { follow = directives-follow; done = directives-done }
