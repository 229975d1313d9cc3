use Rattle.law_granting.proofs.Standing.{serves-meanwhile}
use Rattle.law_granting.proofs.granters_serve_meanwhile.Goals as goal

pub returns : goal.returns
returns c = serves-meanwhile
