use Rattle.law_checked_runs.proofs.Names.{reads_have_plain_names}
use Rattle.law_checked_runs.proofs.what_is_read_has_plain_names.Goals as goal

pub returns : goal.returns
returns c = reads_have_plain_names
