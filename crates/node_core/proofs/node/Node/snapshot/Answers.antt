use Rattle.std.proofs.Common.{sym, subst}
use Rattle.node_model.specs.Nodes.{spec_of}
use Rattle.node_model.specs.NodeParts.{inputs_of, outputs_of}
use Rattle.node_core.specs.Standing.{NodeValue, StandsForNode}
use Rattle.node_core.specs.contracts.node.Node.{the_view}
use Rattle.node_core.proofs.Recovering.{snapshot-stands}
use Rattle.node_core.proofs.node.Node.snapshot.Goals as goal

pub returns-clause-snapshot : goal.returns-clause-snapshot
returns-clause-snapshot c =
    λ home p old fit.
    let v = the_view c.self.inside in
    let h : StandsForNode home v p = subst (λ (w : NodeValue). StandsForNode home w p) (sym c.self.view_is) old in
    snapshot-stands home v p c.in-Ok.snapshot h (c.in-Ok.ensures (spec_of home).ops (inputs_of p) (outputs_of p) h.path fit.inputs.ordered)
