use Rattle.std.proofs.Common.{◌≡◌, ◌==◌, ◌∙◌, ap, sym, false, arith, Option, ℕ}
use Rattle.std.specs.Prelude.{unwrap_or}
use Rattle.std.proofs.lemmas.Grind.{common_steps}
use Rattle.replica_switch.proofs.Orders.{order-at, first-of-best}
use Rattle.replica_switch.proofs.choice.choose.Goals as goal

pub returns : goal.returns
returns c =
    let current = c.args.current in
    let ranks = c.args.ranks.now in
    let apart : (c.order_of.result == c.best_order-best.result) ≡ false = grind (arith, common_steps) in
    c.unwrap_or.ensures ∙ ap (λ (o : Option ℕ). unwrap_or o current) c.first_of.ensures
    ∙ first-of-best current c.best_order-best.result c.order_of.result ranks (c.order_of.ensures ∙ sym (order-at current ranks _ c.requires)) c.best_order-best.ensures apart
