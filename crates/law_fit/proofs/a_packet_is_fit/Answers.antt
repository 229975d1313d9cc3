use Rattle.law_fit.proofs.FitWorlds.{envelope-fits}
use Rattle.law_fit.proofs.a_packet_is_fit.Goals as goal

pub returns : goal.returns
returns c = envelope-fits
