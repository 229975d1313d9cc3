use Rattle.std.proofs.Common.{rules, ◌≡◌, ◌∙◌, ◌≤◌, ◌<◌, ℕ, true, sym, subst, ap, arith, length}
use Rattle.world_core.specs.Runs.{world_of}
use Rattle.live_run.specs.Goals.{is_reached}
use Rattle.live_run.proofs.Reaching.{all_reached, all_reached_more, not_all_reached}
use Rattle.live_run.proofs.goals.are_reached.Goals as goal

pub loop-actor-preserved : goal.loop-actor-preserved
loop-actor-preserved c =
    all_reached_more (world_of c.args.world.now) c.args.cursors.now.items c.loop-actor.actor c.loop-actor.invariant
    (ap (is_reached (world_of c.args.world.now) c.loop-actor.actor) (sym c.goal_at-goal.ensures) ∙ sym c.is_reached.ensures ∙ c.if-not-is_reached.false)

pub returns-then-not-is_reached : goal.returns-then-not-is_reached
returns-then-not-is_reached c =
    let end : c.len-actor-end.result ≡ length c.args.cursors.now.items = search rules in
    let test = c.loop-actor-test.true in
    let low : c.loop-actor.actor < length c.args.cursors.now.items = omega (arith, test, end) in
    not_all_reached (world_of c.args.world.now) c.args.cursors.now.items (length c.args.cursors.now.items) c.loop-actor.actor low
    (ap (is_reached (world_of c.args.world.now) c.loop-actor.actor) (sym c.goal_at-goal.ensures) ∙ sym c.is_reached.ensures ∙ c.if-not-is_reached.true)

pub returns : goal.returns
returns c =
    let end : c.len-actor-end.result ≡ length c.args.cursors.now.items = search rules in
    let most : c.loop-actor.actor ≤ c.len-actor-end.result = c.loop-actor.auto.actor-end in
    let done : c.len-actor-end.result ≤ c.loop-actor.actor = c.loop-actor-test.false in
    let all : c.loop-actor.actor ≡ length c.args.cursors.now.items = omega (arith, end, most, done) in
    sym (subst (λ (k : ℕ). all_reached (world_of c.args.world.now) c.args.cursors.now.items k ≡ true) all c.loop-actor.invariant)
