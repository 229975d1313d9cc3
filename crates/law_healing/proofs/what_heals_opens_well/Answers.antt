use Rattle.law_healing.proofs.Opening.{opens-well}
use Rattle.law_healing.proofs.what_heals_opens_well.Goals as goal

pub returns : goal.returns
returns c = opens-well
