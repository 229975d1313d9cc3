use Rattle.fragment_mill.proofs.stage.append_wire.Goals as goal
use Rattle.fragment_mill.proofs.Gathering.{reads-past}

pub returns-in-None : goal.returns-in-None
returns-in-None c = let past = c.in-None.ensures.lookup in reads-past _ _ _ _ _ _ c.in-Op.is past.3
