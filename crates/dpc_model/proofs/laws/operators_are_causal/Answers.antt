use Rattle.dpc_model.proofs.IdealCausality.{cut-output_of}
use Rattle.dpc_model.proofs.laws.operators_are_causal.Goals as goal

pub returns : goal.returns
returns c = cut-output_of
