use Rattle.lockstep.specs.Locking.{Exceeds}
use Rattle.world_model.specs.Schedules.{tell, tell_all}
use Rattle.lockstep.proofs.Standing.{fold-exceeds, grows-tell, raised}
use Rattle.lockstep.proofs.telling.tell_all.Goals as goal

pub returns-in_err-tell-clause-long : goal.returns-in_err-tell-clause-long
returns-in_err-tell-clause-long g c =
    raised c.from_residual.result (Exceeds (λ x. tell_all x c.args.events.now) c.args.world.now) c.in_err-tell.field-0.0 c.from_residual.ensures
    (fold-exceeds tell c.args.events.now c.loop-event.event-index _ c.args.world.now c.loop-event.world c.in_err-tell.field-0.0 grows-tell c.loop-event-test.true c.loop-event.invariant.follows
    c.in_err-tell.ensures.long)
