use Rattle.law_scripts.proofs.Printing.{refuses_as_checked}
use Rattle.law_scripts.proofs.what_is_printed_is_refused_as_checked.Goals as goal

pub returns : goal.returns
returns c = refuses_as_checked
