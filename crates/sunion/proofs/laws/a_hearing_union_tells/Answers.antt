use Rattle.sunion.proofs.Lawful.{hearing-tells}
use Rattle.sunion.proofs.laws.a_hearing_union_tells.Goals as goal

pub returns : goal.returns
returns c = hearing-tells
