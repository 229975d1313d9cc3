use Rattle.law_scripts.proofs.Reread.{prints_back}
use Rattle.law_scripts.proofs.a_canonical_text_is_what_is_printed.Goals as goal

pub returns : goal.returns
returns c = prints_back
