use Rattle.dpc_model.proofs.Folding.{fold_items-taken}
use Rattle.dpc_model.proofs.laws.taken_items_read_again.Goals as goal

pub returns : goal.returns
returns c = fold_items-taken
