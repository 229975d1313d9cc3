use Rattle.std.proofs.Common.{ap, ◌∙◌, arith}
use Rattle.crossbeam_queue.specs.Passes.{IsPassOf}
use Rattle.mill_pool.specs.declared.rule.SeatView.{SeatView}
use Rattle.mill_pool.proofs.Steps.{forks}
use Rattle.mill_pool.proofs.Making.{made_more}
use Rattle.mill_pool.proofs.pool.make_seats.Goals as goal

pub another-next-requires-clause-rule : goal.another-next-requires-clause-rule
another-next-requires-clause-rule g c =
    let is = c.loop-number.invariant.maker in
    let parts = ap (λ (v : SeatView g.row.M.Denot). v.parts) is in
    let made = ap (λ (v : SeatView g.row.M.Denot). v.made) is in
    let few = c.requires.seats.1 in
    let more = c.loop-number-test.true in
    let from = c.loop-number.auto.number in
    forks _ _ (omega arith) (omega arith)

pub loop-number-preserved : goal.loop-number-preserved
loop-number-preserved g c =
    let rule = c.another-next.ensures.rule in
    let queue = c.another-next.ensures.queue in
    let h = c.loop-number.invariant in
    let ours : IsPassOf c.args.queue.now c.another-next.new.pass = (queue.0.0 ∙ h.ours.0, queue.0.2 ∙ h.ours.1) in
    made_more c.args.queue.now c.loop-number.pass c.another-next.new.pass c.another-next.result c.new.result c.loop-number.number
    c.loop-number.made.items c.push.new.self.items h rule.0 rule.1 ours queue.1 c.new.ensures c.in_ok-push.ensures.items
