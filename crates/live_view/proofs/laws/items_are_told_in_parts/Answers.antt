use Rattle.live_view.proofs.TakenItems.{told-append, told-tuples, told-bound}
use Rattle.live_view.proofs.laws.items_are_told_in_parts.Goals as goal

pub returns : goal.returns
returns c = record { same = told-append; tuples = told-tuples; bound = told-bound }
