use Rattle.soutput.proofs.Standing.{undoing-stands}
use Rattle.soutput.proofs.laws.an_undoing_output_stands.Goals as goal

pub returns : goal.returns
returns c = undoing-stands
