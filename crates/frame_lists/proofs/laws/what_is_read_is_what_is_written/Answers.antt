use Rattle.frame_lists.proofs.Reprinted.{entries-reprinted, items-reprinted}
use Rattle.frame_lists.proofs.laws.what_is_read_is_what_is_written.Goals as goal

pub returns : goal.returns
returns c = record { entries = entries-reprinted; items = items-reprinted }
