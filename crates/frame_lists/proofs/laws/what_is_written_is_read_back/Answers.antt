use Rattle.frame_lists.proofs.ReadBack.{entries-back, items-back}
use Rattle.frame_lists.proofs.laws.what_is_written_is_read_back.Goals as goal

pub returns : goal.returns
returns c = record { entries = entries-back; items = items-back }
