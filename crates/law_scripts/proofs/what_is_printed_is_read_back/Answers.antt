use Rattle.law_scripts.proofs.Printing.{reads_back}
use Rattle.law_scripts.proofs.what_is_printed_is_read_back.Goals as goal

pub returns : goal.returns
returns c = reads_back
