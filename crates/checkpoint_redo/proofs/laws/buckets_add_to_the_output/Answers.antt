use Rattle.checkpoint_redo.proofs.Adding.{buckets-add}
use Rattle.checkpoint_redo.proofs.laws.buckets_add_to_the_output.Goals as goal

pub returns : goal.returns
returns c = buckets-add
