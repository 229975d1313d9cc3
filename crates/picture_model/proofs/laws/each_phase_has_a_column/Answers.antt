use Rattle.picture_model.proofs.Counting.{each-phase}
use Rattle.picture_model.proofs.laws.each_phase_has_a_column.Goals as goal

pub returns : goal.returns
returns c = each-phase
