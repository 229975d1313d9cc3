use Rattle.std.proofs.Common.{rules, ◌≡◌, ◌∙◌, ◌≤◌, ◌<◌, ℕ, cond, ap, arith, length}
use Rattle.dpc_lists.specs.Lists.{nth}
use Rattle.world_model.specs.Schedules.{is_recovering}
use Rattle.world_core.specs.Runs.{world_of}
use Rattle.live_run.proofs.Reaching.{set_length, set_next, still_there, eased_done}
use Rattle.live_run.proofs.goals.ease_all.Goals as goal

pub loop-actor-preserved : goal.loop-actor-preserved
loop-actor-preserved c =
    let end : c.len-actor-end.result ≡ length c.args.cursors.now.items = search rules in
    let test = c.loop-actor-test.true in
    let before = c.loop-actor.invariant in
    let same = before.0 in
    let low : c.loop-actor.actor < length c.loop-actor.cursors.items = omega (arith, test, end, same) in
    let f : ℕ → ℕ = λ a. cond (is_recovering (world_of c.args.world.now) a) 0 (nth 0 c.args.cursors.now.items a) in
    let there = c.goal_at-goal.ensures ∙ still_there c.args.cursors.now.items c.loop-actor.cursors.items c.loop-actor.actor f before.1 in (
      set_length c.loop-actor.cursors.items c.loop-actor.actor c.eased.result ∙ before.0,
      set_next c.loop-actor.cursors.items c.loop-actor.actor c.eased.result f (λ a. nth 0 c.args.cursors.now.items a) low before.1
          (c.eased.ensures ∙ ap (λ (g : ℕ). cond (is_recovering (world_of c.args.world.now) c.loop-actor.actor) 0 g) there),
    )

pub returns-clause-each : goal.returns-clause-each
returns-clause-each c = λ a.
    let end : c.len-actor-end.result ≡ length c.args.cursors.now.items = search rules in
    let most : c.loop-actor.actor ≤ c.len-actor-end.result = c.loop-actor.auto.actor-end in
    let done : c.len-actor-end.result ≤ c.loop-actor.actor = c.loop-actor-test.false in
    eased_done (world_of c.args.world.now) c.args.cursors.now.items c.loop-actor.cursors.items c.loop-actor.actor (omega (arith, end, most, done)) c.loop-actor.invariant.1 a
