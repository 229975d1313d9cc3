use Rattle.soutput.proofs.Standing.{answering-stands}
use Rattle.soutput.proofs.laws.an_answering_output_stands.Goals as goal

pub returns : goal.returns
returns c = answering-stands
