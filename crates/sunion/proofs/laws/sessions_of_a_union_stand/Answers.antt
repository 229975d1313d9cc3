use Rattle.sunion.proofs.Lawful.{sessions-stand}
use Rattle.sunion.proofs.laws.sessions_of_a_union_stand.Goals as goal

pub returns : goal.returns
returns c = sessions-stand
