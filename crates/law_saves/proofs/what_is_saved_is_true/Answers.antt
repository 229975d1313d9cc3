use Rattle.law_saves.proofs.True.{is-true}
use Rattle.law_saves.proofs.what_is_saved_is_true.Goals as goal

pub returns : goal.returns
returns c = is-true
