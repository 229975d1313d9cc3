use Rattle.std.proofs.Common.{sym, subst}
use Rattle.node_model.specs.Nodes.{spec_of}
use Rattle.node_model.specs.NodeParts.{inputs_of, outputs_of}
use Rattle.node_core.specs.Standing.{NodeValue, StandsForNode}
use Rattle.node_core.specs.contracts.node.Node.{the_view}
use Rattle.node_core.proofs.Recovering.{lost-stands}
use Rattle.node_core.proofs.node.Node.begin_recovery.Goals as goal

pub returns-clause-after : goal.returns-clause-after
returns-clause-after c =
    λ home p h fit.
    let stands : StandsForNode home (the_view c.self.inside) p = subst (λ (v : NodeValue). StandsForNode home v p) (sym c.self.view_is) h in
    lost-stands home (the_view c.self.inside) p c.lose.new.self c.begin_recovery.new.self stands c.in_ok-lose.ensures.fixed
    (c.in_ok-lose.ensures.lost (spec_of home).ops (inputs_of p) (outputs_of p) stands.path) c.begin_recovery.ensures
