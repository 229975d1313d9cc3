use Rattle.std.proofs.Common.{rules, ◌∙◌, ◌≡◌, min, ap, sym, ℕ}
use Rattle.sunion.specs.Ports.{reached_at}
use Rattle.sunion.proofs.Counting.{least_over-more}
use Rattle.sunion.proofs.spans.count_reached.Goals as goal

pub loop-port-preserved : goal.loop-port-preserved
loop-port-preserved c =
    let least : c.min-least.result ≡ min c.loop-port.least (reached_at c.args.width c.port-item.result) = search rules in
    least ∙ ap (λ (n : ℕ). min n (reached_at c.args.width c.port-item.result)) c.loop-port.invariant
    ∙ sym (least_over-more (reached_at c.args.width) c.args.most c.args.ports.now c.loop-port.port-index c.port-item.result c.loop-port-test.true c.port-item.is)
