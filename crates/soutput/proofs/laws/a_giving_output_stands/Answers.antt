use Rattle.soutput.proofs.Standing.{giving-stands}
use Rattle.soutput.proofs.laws.a_giving_output_stands.Goals as goal

pub returns : goal.returns
returns c = giving-stands
