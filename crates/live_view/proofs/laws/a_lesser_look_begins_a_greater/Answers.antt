use Rattle.live_view.proofs.Looks.{look-prefix}
use Rattle.live_view.proofs.laws.a_lesser_look_begins_a_greater.Goals as goal

pub returns : goal.returns
returns c = look-prefix
