use Rattle.sunion.proofs.Lawful.{undoing-stands}
use Rattle.sunion.proofs.laws.an_undoing_union_stands.Goals as goal

pub returns : goal.returns
returns c = undoing-stands
