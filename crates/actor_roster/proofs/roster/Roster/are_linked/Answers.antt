use Rattle.std.proofs.Common.{ap, ◌∙◌}
use Rattle.dpc_model.specs.Actors.{are_linked}
use Rattle.dpc_model.specs.declared.plans.Plan.{Plan}
use Rattle.actor_roster.proofs.Tables.{link-at}
use Rattle.actor_roster.proofs.roster.Roster.are_linked.Goals as goal

pub returns-in-Some : goal.returns-in-Some
returns-in-Some c =
    link-at c.self.inside.plan c.self.inside.width c.args.a c.args.b c.deref.result.now c.in-Some.linked.now (c.deref.ensures.value ∙ c.self.invariant.links_are) c.if-b-self.true c.in-Some.ensures.lookup.3.0
    c.in-Some.ensures.lookup.1
    ∙ ap (λ (plan : Plan). are_linked plan c.args.a c.args.b) c.self.view_is
