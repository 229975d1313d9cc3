use Rattle.diagram_reader.proofs.Numbered.{tick_clock}
use Rattle.diagram_reader.proofs.statements.tick.Goals as goal

pub number_at-now-requires : goal.number_at-now-requires
number_at-now-requires c = (tick_clock _ _ c.requires).0
