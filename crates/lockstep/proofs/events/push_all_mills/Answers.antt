use Rattle.std.proofs.Common.{arith, refl, ap, ◌∙◌, ◌++◌, ℕ}
use Rattle.world_model.specs.Worlds.{ready_at}
use Rattle.world_model.specs.Schedules.{mill_events}
use Rattle.world_core.specs.Runs.{world_of}
use Rattle.lockstep.proofs.Counting.{flat-more}
use Rattle.lockstep.proofs.events.push_all_mills.Goals as goal

pub loop-actor-preserved : goal.loop-actor-preserved
loop-actor-preserved c =
    flat-more (λ a. mill_events a (ready_at (world_of c.args.world.now) a)) 0 c.loop-actor.actor c.loop-actor.actor _ c.args.events.now.items c.loop-actor.events.items _ (omega arith) refl
    c.loop-actor.invariant (c.in_ok-push_mills.ensures ∙ ap (λ (r : ℕ). c.loop-actor.events.items ++ mill_events c.loop-actor.actor r) (c.ready.ensures ∙ ap (ready_at (world_of c.args.world.now)) c.from.ensures))
