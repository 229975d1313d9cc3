use Rattle.dpc_model.proofs.FragmentValues.{ideal-frag}
use Rattle.dpc_model.proofs.laws.failure_free_output_of_a_fragment.Goals as goal

pub returns : goal.returns
returns c = ideal-frag
