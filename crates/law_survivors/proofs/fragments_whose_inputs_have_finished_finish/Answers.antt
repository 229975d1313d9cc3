use Rattle.law_survivors.proofs.Feeding.{fed-fragments-finish}
use Rattle.law_survivors.proofs.fragments_whose_inputs_have_finished_finish.Goals as goal

pub returns : goal.returns
returns c = fed-fragments-finish
