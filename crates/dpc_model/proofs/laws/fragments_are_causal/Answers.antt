use Rattle.dpc_model.specs.Streams.{is_below}
use Rattle.dpc_model.proofs.IdealCausality.{cut-fragment_value}
use Rattle.dpc_model.proofs.Kept.{serial-kept}
use Rattle.dpc_model.proofs.laws.fragments_are_causal.Goals as goal

pub returns : goal.returns
returns c = record { value = cut-fragment_value; serial = λ ports early. serial-kept (is_below early) ports }
