use Rattle.journal_inputs.proofs.ReadBack.{printed_is_read}
use Rattle.journal_inputs.proofs.laws.what_is_printed_is_read_back.Goals as goal

pub returns : goal.returns
returns c = printed_is_read
