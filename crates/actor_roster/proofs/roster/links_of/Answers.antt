use Rattle.std.proofs.Common.{◌/◌, ◌%◌}
use Rattle.dpc_model.specs.Actors.{are_linked}
use Rattle.actor_roster.proofs.Tables.{more}
use Rattle.actor_roster.proofs.roster.links_of.Goals as goal

pub loop-place-preserved : goal.loop-place-preserved
loop-place-preserved c =
    more (λ place. are_linked c.args.plan.now (place / c.args.width) (place % c.args.width)) c.loop-place.place c.are_linked.result c.loop-place.links.items _ c.loop-place.invariant c.are_linked.ensures c.in_ok-push.ensures.items
