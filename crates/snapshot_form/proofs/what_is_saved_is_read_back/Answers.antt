use Rattle.snapshot_form.proofs.ReadBack.{snapshot-back}
use Rattle.snapshot_form.proofs.what_is_saved_is_read_back.Goals as goal

pub returns : goal.returns
returns c = snapshot-back
