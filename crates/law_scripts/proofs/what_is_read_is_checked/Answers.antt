use Rattle.law_scripts.proofs.ReadChecked.{reads_checked}
use Rattle.law_scripts.proofs.what_is_read_is_checked.Goals as goal

pub returns : goal.returns
returns c = reads_checked
