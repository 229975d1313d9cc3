use Rattle.std.proofs.Common.{rules, ◌≡◌, ◌∙◌, ◌≤◌, ◌<◌, ℕ, true, sym, subst, arith, length}
use Rattle.world_core.specs.Runs.{world_of}
use Rattle.live_parts.proofs.Served.{all_served, all_served_more, all_served_is, not_all_served}
use Rattle.live_parts.proofs.moment.Moment.all_ticked.Goals as goal

pub loop-actor-preserved : goal.loop-actor-preserved
loop-actor-preserved c =
    all_served_more (world_of c.args.world.now) c.args.self.now.ticked.items c.loop-actor.actor c.loop-actor.invariant (sym c.is_served.ensures ∙ c.if-not-is_served.false)

pub returns-then-not-is_served : goal.returns-then-not-is_served
returns-then-not-is_served c = λ p s same n.
    let end : c.len-actor-end.result ≡ length c.args.self.now.ticked.items = search rules in
    let test = c.loop-actor-test.true in
    let low : c.loop-actor.actor < length c.args.self.now.ticked.items = omega (arith, test, end) in
    not_all_served (world_of c.args.world.now) c.args.self.now.ticked.items (length c.args.self.now.ticked.items) c.loop-actor.actor low
    (sym c.is_served.ensures ∙ c.if-not-is_served.true)
    ∙ all_served_is (world_of c.args.world.now) c.args.self.now.ticked.items p s.ticked same n

pub returns : goal.returns
returns c = λ p s same n.
    let end : c.len-actor-end.result ≡ length c.args.self.now.ticked.items = search rules in
    let most : c.loop-actor.actor ≤ c.len-actor-end.result = c.loop-actor.auto.actor-end in
    let done : c.len-actor-end.result ≤ c.loop-actor.actor = c.loop-actor-test.false in
    let all : c.loop-actor.actor ≡ length c.args.self.now.ticked.items = omega (arith, end, most, done) in
    sym (subst (λ (k : ℕ). all_served (world_of c.args.world.now) c.args.self.now.ticked.items k ≡ true) all c.loop-actor.invariant)
    ∙ all_served_is (world_of c.args.world.now) c.args.self.now.ticked.items p s.ticked same n
