use Rattle.std.proofs.Common.{subst}
use Rattle.dpc_model.specs.Fragments.{AreSoundFrags}
use Rattle.dpc_model.specs.declared.plans.Plan.{Plan}
use Rattle.live_view.proofs.Opening.{nothing-true, opens}
use Rattle.live_view.proofs.live.LiveView.new.Goals as goal

pub new-requires-clause-rule : goal.new-requires-clause-rule
new-requires-clause-rule g c =
    let x = c.nothing.result in
    let sound : AreSoundFrags g.N.ViewName.plan.frags = subst (λ (p : Plan). AreSoundFrags p.frags) c.requires.name c.requires.plan.0.ops in
    opens g.N.ViewName.plan x (nothing-true g.N.ViewName.plan x sound c.nothing.ensures.2 c.nothing.ensures.1)
