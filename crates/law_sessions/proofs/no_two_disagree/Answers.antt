use Rattle.law_sessions.proofs.Agreeing.{none-disagree}
use Rattle.law_sessions.proofs.no_two_disagree.Goals as goal

pub returns : goal.returns
returns c = none-disagree
