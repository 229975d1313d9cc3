use Rattle.picture_model.proofs.Counting.{losses-add-none}
use Rattle.picture_model.proofs.laws.losses_add_no_column.Goals as goal

pub returns : goal.returns
returns c = losses-add-none
