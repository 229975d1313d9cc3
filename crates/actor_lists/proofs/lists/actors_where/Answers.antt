use Rattle.std.proofs.Common.{◌∙◌, ap, sym}
use Rattle.actor_lists.specs.Questions.{holds}
use Rattle.actor_lists.proofs.Roles.{passes, fails}
use Rattle.actor_lists.proofs.lists.actors_where.Goals.{then-holds+in_ok-push, else-holds}
use Rattle.actor_lists.proofs.lists.actors_where.Goals as goal

pub loop-actor-preserved : goal.loop-actor-preserved
loop-actor-preserved c =
    elim c.if-holds.branch [
      | then-holds+in_ok-push w ↦ passes (holds c.args.plan.now c.args.question) c.loop-actor.actor c.deref-role-items.result.now _ c.loop-actor.actors.items _ c.loop-actor-test.true c.loop-actor.invariant (sym c.holds.ensures ∙ w.if-holds.true) (ap (λ v. v.items) w.actors-is ∙ w.in_ok-push.ensures.items)
      | else-holds w ↦ fails (holds c.args.plan.now c.args.question) c.loop-actor.actor c.deref-role-items.result.now _ c.loop-actor.actors.items _ c.loop-actor-test.true c.loop-actor.invariant (sym c.holds.ensures ∙ w.if-holds.false) (ap (λ v. v.items) w.actors-is)
    ]
