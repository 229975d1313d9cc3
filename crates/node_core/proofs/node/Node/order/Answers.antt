use Rattle.std.proofs.Common.{◌∙◌, sym, ap, subst}
use Rattle.fragment_mill.specs.Mills.{MillState}
use Rattle.mill_work.specs.Milling.{OrderValue}
use Rattle.node_model.specs.Nodes.{spec_of}
use Rattle.node_model.specs.NodeParts.{inputs_of, outputs_of}
use Rattle.node_core.specs.Milling.{CanMillNode, IsOrderOf}
use Rattle.node_core.specs.Standing.{NodeValue}
use Rattle.node_core.specs.contracts.node.Node.{the_view}
use Rattle.node_core.proofs.Milled.{can-mill-path}
use Rattle.node_core.proofs.Orders.{order-of}
use Rattle.node_core.proofs.node.Node.order.Goals as goal

pub work-requires : goal.work-requires
work-requires c =
    let v = the_view c.self.inside in
    let can_mill : CanMillNode c.args.count v = subst (λ (w : NodeValue). CanMillNode c.args.count w) (sym c.self.view_is) (c.requires (ap (λ (w : NodeValue). w.spent) (sym c.self.view_is) ∙ c.if-self.false)) in
    let home = can_mill.node.0 in
    let p = can_mill.node.1 in
    ((spec_of home).ops, inputs_of p, outputs_of p, can-mill-path home v p c.args.count can_mill.some can_mill.node.2)

pub returns-clause-order : goal.returns-clause-order
returns-clause-order c =
    let v = the_view c.self.inside in
    let can_mill : CanMillNode c.args.count v = subst (λ (w : NodeValue). CanMillNode c.args.count w) (sym c.self.view_is) (c.requires (ap (λ (w : NodeValue). w.spent) (sym c.self.view_is) ∙ c.if-self.false)) in
    let o : OrderValue MillState = record { node = c.own.result; inc = c.inc.result; cursor = c.cursor.result; before = c.in-Ok.before; buckets = c.in-Ok.buckets } in
    subst (λ (w : NodeValue). IsOrderOf w c.args.count o) c.self.view_is
    (order-of v c.args.count o can_mill c.own.ensures c.inc.ensures (c.cursor.ensures ∙ ap (λ (w : NodeValue). w.path.union.union.cursor) (sym c.self.view_is)) c.in-Ok.ensures.engine c.in-Ok.ensures.buckets)
