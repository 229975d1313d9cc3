use Rattle.snapshot_form.proofs.Pieces.{pieces-joined}
use Rattle.snapshot_form.proofs.the_pieces_are_the_bytes.Goals as goal

pub returns : goal.returns
returns c = pieces-joined
