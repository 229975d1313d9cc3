use Rattle.picture_model.proofs.Going.{drawing-none, drawing-push}
use Rattle.picture_model.proofs.laws.a_drawing_goes_on_with_a_run.Goals as goal

pub returns : goal.returns
returns c = record { none = drawing-none; next = drawing-push }
