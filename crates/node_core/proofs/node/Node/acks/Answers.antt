use Rattle.std.proofs.Common.{◌≡◌, ◌+◌, ◌∙◌, List, [], length, sym, ap, subst, arith}
use Rattle.node_model.specs.Mails.{in_actor_order}
use Rattle.node_model.specs.Nodes.{streams_of}
use Rattle.node_model.specs.NodeSteps.{acks_from}
use Rattle.dpc_lists.specs.Lists.{nth}
use Rattle.node_core.specs.declared.packets.Mail.{Mail}
use Rattle.node_core.specs.Standing.{NodeValue, AreMails}
use Rattle.node_core.proofs.Announcing.{HasAcked, more-acked, all-acked}
use Rattle.node_core.proofs.node.Node.acks.Goals as goal

pub loop-port-preserved : goal.loop-port-preserved
loop-port-preserved c =
    let v = c.args.self.now in
    let many : c.ports-port-end.result ≡ length v.links.known.upstreams = c.ports-port-end.ensures ∙ ap (λ (w : NodeValue). length w.links.known.upstreams) c.self.view_is in
    let i = c.loop-port.port in
    subst (λ (ms : List Mail). HasAcked (c.loop-port.port + 1) v ms) (sym c.in_ok-push_acks.ensures)
    (more-acked i c.inc-inc.result c.done-count.result v c.loop-port.mails.items c.senders.result.now (omega (arith, many)) c.loop-port.invariant
    (c.inc-inc.ensures ∙ ap (λ (w : NodeValue). w.links.known.grants.inc) c.self.view_is) c.done-count.ensures
    (c.senders.ensures ∙ ap (λ (w : NodeValue). nth [] w.links.senders i) c.self.view_is))

pub returns : goal.returns
returns c =
    λ home p h fit.
    let v = c.args.self.now in
    let many : c.ports-port-end.result ≡ length v.links.known.upstreams = c.ports-port-end.ensures ∙ ap (λ (w : NodeValue). length w.links.known.upstreams) c.self.view_is in
    let last : c.loop-port.port ≡ length v.links.known.upstreams = omega (arith, many) in
    subst (λ (ms : List Mail). AreMails home ms (in_actor_order (acks_from home p p.ports (streams_of home)))) (sym (c.in_ok-mails.ensures {u = tt}))
    (all-acked c.loop-port.port v c.loop-port.mails.items last c.loop-port.invariant home p h fit)
