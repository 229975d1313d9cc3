use Rattle.live_view.proofs.TakenItems.{fold-taken}
use Rattle.live_view.proofs.laws.taken_items_go_on.Goals as goal

pub returns : goal.returns
returns c = record {
  go_on = λ r items f e. (fold-taken r items f e).goes_on;
  stable = λ r items f e. (fold-taken r items f e).stable;
  bound = λ r items f e. (fold-taken r items f e).bound;
}
