use Rattle.sunion.proofs.Lawful.{restarting-stands}
use Rattle.sunion.proofs.laws.a_restarting_union_stands.Goals as goal

pub returns : goal.returns
returns c = restarting-stands
