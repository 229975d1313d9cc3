use Rattle.std.proofs.Common.{rules, ◌≡◌, ◌<◌, ◌≤◌, ◌-◌, ◌∙◌, sym, ap, Some, arith, ℕ}
use Rattle.sunion.specs.Ports.{least_over, reached_at}
use Rattle.sunion.proofs.Counting.{passing_from, reached-last, reached-none}
use Rattle.sunion.proofs.spans.last_reached.Goals.{then-any_closed, else-any_closed}
use Rattle.sunion.proofs.spans.last_reached.Goals as goal

pub returns-then-start-end : goal.returns-then-start-end
returns-then-start-end c =
    let a = c.args in
    let start : c.if-any_closed.start ≡ passing_from a.width a.buckets a.frontier a.any_closed a.ports.now = search rules in
    let end : c.count_reached-end.result ≡ least_over (reached_at a.width) a.buckets a.ports.now = c.count_reached-end.ensures in
    let low : c.if-any_closed.start < c.count_reached-end.result = c.if-start-end.true in
    ap (λ (n : ℕ). Some (n - 1)) end ∙ sym (reached-last a.width a.buckets a.frontier a.any_closed a.ports.now c.requires (omega (arith, start, end, low)))

pub returns-else-start-end : goal.returns-else-start-end
returns-else-start-end c =
    let a = c.args in
    let start : c.if-any_closed.start ≡ passing_from a.width a.buckets a.frontier a.any_closed a.ports.now = search rules in
    let end : c.count_reached-end.result ≡ least_over (reached_at a.width) a.buckets a.ports.now = c.count_reached-end.ensures in
    let past : c.count_reached-end.result ≤ c.if-any_closed.start = c.if-start-end.false in
    sym (reached-none a.width a.buckets a.frontier a.any_closed a.ports.now c.requires (omega (arith, start, end, past)))
