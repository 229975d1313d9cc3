use Rattle.law_settling_readers.proofs.Laws.{answered-once-law}
use Rattle.law_settling_readers.proofs.sessions_are_answered_in_one_incarnation.Goals as goal

pub returns : goal.returns
returns c = answered-once-law
