use Rattle.law_journals.proofs.ViewsHeld.{are-held}
use Rattle.law_journals.proofs.readers_hold_the_view_as_they_asked.Goals as goal

pub returns : goal.returns
returns c = are-held
