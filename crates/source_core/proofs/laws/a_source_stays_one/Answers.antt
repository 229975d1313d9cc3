use Rattle.source_core.proofs.Staying.{stays-one}
use Rattle.source_core.proofs.laws.a_source_stays_one.Goals as goal

pub returns : goal.returns
returns c = stays-one
