use Rattle.law_scripts.proofs.Canonical.{prints_canonical}
use Rattle.law_scripts.proofs.what_is_printed_is_canonical.Goals as goal

pub returns : goal.returns
returns c = prints_canonical
