use Rattle.snapshot_form.proofs.Reprinted.{snapshot-own}
use Rattle.snapshot_form.proofs.what_is_read_is_what_is_saved.Goals as goal

pub returns : goal.returns
returns c = λ plan frag bytes s low read. snapshot-own plan frag bytes s low read
