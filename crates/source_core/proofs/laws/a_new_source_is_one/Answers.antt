use Rattle.source_core.proofs.Staying.{opens}
use Rattle.source_core.proofs.laws.a_new_source_is_one.Goals as goal

pub returns : goal.returns
returns c = opens
