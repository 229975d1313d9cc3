use Rattle.std.proofs.Common.{sym, subst}
use Rattle.dpc_model.specs.NodeStates.{is_stable}
use Rattle.node_model.specs.Nodes.{spec_of}
use Rattle.node_model.specs.NodeParts.{inputs_of, outputs_of}
use Rattle.node_core.specs.Standing.{NodeValue, StandsForNode}
use Rattle.node_core.specs.contracts.node.Node.{the_view}
use Rattle.node_core.proofs.Answering.{view-shown}
use Rattle.node_core.proofs.node.Node.view.Goals as goal

pub returns-clause-view : goal.returns-clause-view
returns-clause-view c =
    λ home p stands.
    let v = the_view c.self.inside in
    let h : StandsForNode home v p = subst (λ (w : NodeValue). StandsForNode home w p) (sym c.self.view_is) stands in
    view-shown home v p c.in-Ok.items h (c.in-Ok.ensures (spec_of home).ops (inputs_of p) (outputs_of p) (is_stable p.state) h.path)
