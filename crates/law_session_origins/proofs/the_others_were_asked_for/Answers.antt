use Rattle.law_session_origins.proofs.OpenedAll.{opened-by-asking}
use Rattle.law_session_origins.proofs.the_others_were_asked_for.Goals as goal

pub returns : goal.returns
returns c = opened-by-asking
