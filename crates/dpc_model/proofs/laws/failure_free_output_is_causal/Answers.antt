use Rattle.dpc_model.proofs.IdealCausality.{cut-ideal_upto}
use Rattle.dpc_model.proofs.laws.failure_free_output_is_causal.Goals as goal

pub returns : goal.returns
returns c = cut-ideal_upto
