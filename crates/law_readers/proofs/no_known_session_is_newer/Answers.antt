use Rattle.law_readers.proofs.Known.{none-newer}
use Rattle.law_readers.proofs.no_known_session_is_newer.Goals as goal

pub returns : goal.returns
returns c = none-newer
