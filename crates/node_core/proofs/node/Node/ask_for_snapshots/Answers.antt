use Rattle.std.proofs.Common.{◌∙◌, ℕ, map, ap, subst}
use Rattle.dpc_model.specs.declared.messages.Message.TheVariants as message
use Rattle.node_model.specs.NodeSteps.{snapshot_ask_step}
use Rattle.node_core.specs.Standing.{NodeValue}
use Rattle.node_core.specs.Stepping.{Steps, plain_mail}
use Rattle.node_core.specs.contracts.node.Node.{the_view}
use Rattle.node_core.proofs.Asking.{snapshot-asked}
use Rattle.node_core.proofs.node.Node.ask_for_snapshots.Goals as goal

pub returns : goal.returns
returns c =
    let v = the_view c.self.inside in
    let peers = c.peers.result.now in
    subst (λ (w : NodeValue). Steps snapshot_ask_step w w c.in_ok-mails.mails.items) c.self.view_is
    (snapshot-asked v peers c.in_ok-mails.mails.items c.peers.ensures
    (c.in_ok-mails.ensures {u = tt} ∙ ap (λ (i : ℕ). map (λ a. plain_mail a (message.SnapAsk i c.tries.result)) peers) c.inc.ensures
    ∙ ap (λ (n : ℕ). map (λ a. plain_mail a (message.SnapAsk v.links.known.grants.inc n)) peers) c.tries.ensures))
