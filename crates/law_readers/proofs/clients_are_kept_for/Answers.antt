use Rattle.law_readers.proofs.Kept.{clients-kept}
use Rattle.law_readers.proofs.clients_are_kept_for.Goals as goal

pub returns : goal.returns
returns c = clients-kept
