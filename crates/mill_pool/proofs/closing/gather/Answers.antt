use Rattle.std.proofs.Common.{◌≡◌, ◌∷◌, sym, ◌∙◌, subst}
use Rattle.crossbeam_queue.specs.Passes.{IsPassOf}
use Rattle.mill_pool.specs.Seats.{known}
use Rattle.mill_pool.proofs.Steps.{merges}
use Rattle.mill_pool.proofs.Gathering.{first_of, came}
use Rattle.mill_pool.proofs.closing.gather.Goals as goal

pub absorb-requires-clause-queue : goal.absorb-requires-clause-queue
absorb-requires-clause-queue g c =
    let h = c.loop-seat.invariant in
    let step : c.loop-seat.seat-iterator.rest.items ≡ c.in-Some.seat ∷ c.next.new.self.rest.items = (c.in-Some.ensures {u = tt}).steps.0 in
    (h.ours, subst (λ s. IsPassOf c.args.queue.now s) (sym c.into_pass.ensures) (first_of c.args.queue.now _ _ _ step h.theirs))

pub absorb-requires-clause-rule : goal.absorb-requires-clause-rule
absorb-requires-clause-rule g c = merges _ _ _ _ c.loop-seat.invariant.live

pub loop-seat-preserved : goal.loop-seat-preserved
loop-seat-preserved g c =
    let h = c.loop-seat.invariant in
    let same = c.absorb.ensures.queue in
    let step : c.loop-seat.seat-iterator.rest.items ≡ c.in-Some.seat ∷ c.next.new.self.rest.items = (c.in-Some.ensures {u = tt}).steps.0 in
    let ours : IsPassOf c.args.queue.now c.absorb.new.pass = (same.0 ∙ h.ours.0, same.2 ∙ h.ours.1) in
    came c.args.queue.now (known c.args.pass.now) c.args.seats.items c.loop-seat.pass c.absorb.new.pass c.into_pass.result c.in-Some.seat
    c.loop-seat.seat-iterator.rest.items c.next.new.self.rest.items h c.absorb.ensures.rule c.into_pass.ensures step ours
