use Rattle.std.proofs.Common.{◌∙◌, ap, sym, min}
use Rattle.replica_switch.proofs.Orders.{least_to, least-next}
use Rattle.replica_switch.proofs.choice.best_order.Goals as goal

pub loop-rank-preserved : goal.loop-rank-preserved
loop-rank-preserved c =
    c.min-best.ensures ∙ ap (λ n. min n c.order_of.result) c.loop-rank.invariant ∙ ap (λ n. min (least_to c.loop-rank.rank-index c.args.ranks.now) n) c.order_of.ensures
    ∙ sym (least-next c.loop-rank.rank-index c.args.ranks.now _ c.loop-rank-test.true)
