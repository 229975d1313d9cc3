use Rattle.sunion.proofs.Lawful.{start-stands}
use Rattle.sunion.proofs.laws.a_new_union_stands.Goals as goal

pub returns : goal.returns
returns c = start-stands
