use Rattle.law_settling_readers.proofs.Laws.{asked-once-law}
use Rattle.law_settling_readers.proofs.sessions_are_asked_for_once.Goals as goal

pub returns : goal.returns
returns c = asked-once-law
