use Rattle.std.proofs.Common.{◌∙◌, ◌-◌, ◌++◌, ap, List, length}
use Rattle.std.specs.Prelude.{flat_map}
use Rattle.dpc_model.specs.Actors.{roles_of}
use Rattle.dpc_lists.specs.Lists.{range_with_len}
use Rattle.dpc_model.specs.declared.messages.Event.{Event}
use Rattle.dpc_model.specs.declared.plans.Plan.{Plan}
use Rattle.world_model.specs.Worlds.{World, ready_at}
use Rattle.world_model.specs.Schedules.{mill_events}
use Rattle.law_safety.proofs.Growing.{run-plan}
use Rattle.world_core.specs.Runs.{world_of}
use Rattle.lockstep.proofs.Counting.{phase-made}
use Rattle.lockstep.proofs.events.phase_events.Goals as goal

pub returns : goal.returns
returns c =
    let w : World = world_of c.args.world.now in
    let mills = ap (λ (es : List Event). es ++ flat_map (λ a. mill_events a (ready_at w a)) (range_with_len 0 c.in_ok-actors.actors)) c.new-events.ensures.items in
    phase-made w c.args.world.now.plan c.args.directives.now c.deref.result.now c.in_ok-actors.actors c.args.now (range_with_len c.args.first (c.args.sent - c.args.first))
    c.push_all_mills.new.events.items c.push_deliveries.new.events.items c.push_ticks.new.events.items (run-plan c.args.world.now.plan c.args.world.now.events)
    (c.in_ok-actors.ensures ∙ ap (λ (plan : Plan). length (roles_of plan)) c.plan.ensures) (c.deref.ensures.value ∙ c.in_ok-fates.ensures) (c.in_ok-push_all_mills.ensures ∙ mills)
    c.in_ok-push_deliveries.ensures c.in_ok-push_ticks.ensures
