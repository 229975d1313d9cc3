use Rattle.sunion.proofs.Lawful.{closing-stands}
use Rattle.sunion.proofs.laws.a_closing_union_stands.Goals as goal

pub returns : goal.returns
returns c = closing-stands
