use Rattle.std.proofs.Common.{◌∙◌, ℕ, sym, ap, subst}
use Rattle.fragment_mill.specs.Mills.{MillState}
use Rattle.mill_work.specs.Milling.{OrderValue}
use Rattle.node_model.specs.Nodes.{spec_of}
use Rattle.node_model.specs.NodeParts.{inputs_of, outputs_of}
use Rattle.pipeline.specs.Flowing.{PipelineValue, IsMillOf}
use Rattle.pipeline.proofs.Spares.{spare-serves}
use Rattle.node_core.specs.Milling.{CanMillNode, IsOrderOf}
use Rattle.node_core.specs.Standing.{NodeValue, StandsForNode}
use Rattle.node_core.specs.contracts.node.Node.{the_view}
use Rattle.node_core.proofs.Milled.{can-mill-path}
use Rattle.node_core.proofs.Orders.{order-of}
use Rattle.node_core.proofs.node.Node.lend.Goals as goal

pub lend-requires-clause-can : goal.lend-requires-clause-can
lend-requires-clause-can c =
    let v = the_view c.self.inside in
    let can_mill : CanMillNode c.args.count v = subst (λ (w : NodeValue). CanMillNode c.args.count w) (sym c.self.view_is) (c.requires.can (ap (λ (w : NodeValue). w.spent) (sym c.self.view_is) ∙ c.if-self.false)) in
    let home = can_mill.node.0 in
    let p = can_mill.node.1 in
    ((spec_of home).ops, inputs_of p, outputs_of p, can-mill-path home v p c.args.count can_mill.some can_mill.node.2)

pub lend-requires-clause-spare : goal.lend-requires-clause-spare
lend-requires-clause-spare c =
    let v = the_view c.self.inside in
    let spare = c.requires.spare (ap (λ (w : NodeValue). w.spent) (sym c.self.view_is) ∙ c.if-self.false) in
    let home = spare.0 in
    let p = spare.1 in
    let h : StandsForNode home v p = subst (λ (w : NodeValue). StandsForNode home w p) (sym c.self.view_is) spare.2 in
    spare-serves (spec_of home).ops v.path (inputs_of p) (outputs_of p) c.args.spare h.path (subst (λ (w : ℕ). IsMillOf (spec_of home).ops w c.args.spare) (sym h.setting.width) spare.3)

pub returns-clause-order : goal.returns-clause-order
returns-clause-order c =
    let v = the_view c.self.inside in
    let can_mill : CanMillNode c.args.count v = subst (λ (w : NodeValue). CanMillNode c.args.count w) (sym c.self.view_is) (c.requires.can (ap (λ (w : NodeValue). w.spent) (sym c.self.view_is) ∙ c.if-self.false)) in
    let o : OrderValue MillState = record { node = c.own.result; inc = c.inc.result; cursor = c.cursor.result; before = c.in-Ok.before; buckets = c.in-Ok.buckets } in
    subst (λ (w : NodeValue). IsOrderOf w c.args.count o) c.self.view_is
    (order-of v c.args.count o can_mill c.own.ensures c.inc.ensures (c.cursor.ensures ∙ ap (λ (q : PipelineValue). q.union.union.cursor) c.in-Ok.ensures.stays) c.in-Ok.ensures.engine c.in-Ok.ensures.buckets)
