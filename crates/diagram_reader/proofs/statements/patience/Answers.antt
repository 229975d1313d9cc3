use Rattle.diagram_reader.proofs.Numbered.{patience_delay}
use Rattle.diagram_reader.proofs.statements.patience.Goals as goal

pub number_at-requires : goal.number_at-requires
number_at-requires c = (patience_delay _ _ c.requires).0
