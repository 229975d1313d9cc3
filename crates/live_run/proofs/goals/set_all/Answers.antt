use Rattle.std.proofs.Common.{rules, ◌≡◌, ◌∙◌, ◌≤◌, ◌<◌, arith, length}
use Rattle.dpc_lists.specs.Lists.{nth}
use Rattle.world_core.specs.Runs.{world_of}
use Rattle.live_run.specs.Goals.{goal_in}
use Rattle.live_run.proofs.Reaching.{set_length, set_next, set_done}
use Rattle.live_run.proofs.goals.set_all.Goals as goal

pub loop-actor-preserved : goal.loop-actor-preserved
loop-actor-preserved c =
    let end : c.len-actor-end.result ≡ length c.args.cursors.now.items = search rules in
    let test = c.loop-actor-test.true in
    let before = c.loop-actor.invariant in
    let same = before.0 in
    let low : c.loop-actor.actor < length c.loop-actor.cursors.items = omega (arith, test, end, same) in (
      set_length c.loop-actor.cursors.items c.loop-actor.actor c.in_ok-cursors.field-0 ∙ before.0,
      set_next c.loop-actor.cursors.items c.loop-actor.actor c.in_ok-cursors.field-0 (goal_in (world_of c.args.world.now)) (λ a. nth 0 c.args.cursors.now.items a) low before.1 c.in_ok-cursors.ensures,
    )

pub returns-clause-each : goal.returns-clause-each
returns-clause-each c = λ a.
    let end : c.len-actor-end.result ≡ length c.args.cursors.now.items = search rules in
    let most : c.loop-actor.actor ≤ c.len-actor-end.result = c.loop-actor.auto.actor-end in
    let done : c.len-actor-end.result ≤ c.loop-actor.actor = c.loop-actor-test.false in
    set_done c.args.cursors.now.items c.loop-actor.cursors.items c.loop-actor.actor (goal_in (world_of c.args.world.now)) (omega (arith, end, most, done)) c.loop-actor.invariant.1 a
