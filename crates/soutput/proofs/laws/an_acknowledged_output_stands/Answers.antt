use Rattle.soutput.proofs.Standing.{acking-stands}
use Rattle.soutput.proofs.laws.an_acknowledged_output_stands.Goals as goal

pub returns : goal.returns
returns c = acking-stands
