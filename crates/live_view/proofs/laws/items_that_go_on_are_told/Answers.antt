use Rattle.live_view.proofs.TakenItems.{all-told}
use Rattle.live_view.proofs.laws.items_that_go_on_are_told.Goals as goal

pub returns : goal.returns
returns c = all-told
