-- What fills the room and what is put behind it stand in front.
use Rattle.std.proofs.Common.{◌≤◌, length, arith}
use Rattle.dpc_edge.proofs.Pieces.{take-past}
use Rattle.dpc_edge.proofs.memory.stored.Goals as goal

pub returns-clause-stored : goal.returns-clause-stored
returns-clause-stored c =
    let fits : c.front_copied.result ≤ length c.front_copied.new.buffer = omega arith in
    rw (← c.front_copied.ensures.front) (take-past _ _ _ _ _ c.requires.filled fits)
