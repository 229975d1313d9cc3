use Rattle.law_readers.proofs.Surely.{sources-sure}
use Rattle.law_readers.proofs.sources_send_what_stays.Goals as goal

pub returns : goal.returns
returns c = sources-sure
