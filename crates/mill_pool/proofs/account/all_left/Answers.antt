use Rattle.std.proofs.Common.{not, ◌∙◌}
use Rattle.std.specs.List.{filter}
use Rattle.mill_pool.proofs.account.all_left.Goals as goal

pub returns : goal.returns
returns c = c.in_ok-left.ensures {u = tt} ∙ (λ i. filter (λ t. not ((c.in_ok-gone.ensures {u = tt}).0 t i)) c.args.put.now)
