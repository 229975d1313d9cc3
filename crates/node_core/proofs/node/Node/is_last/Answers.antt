use Rattle.std.proofs.Common.{rules, ◌≡◌, ◌∙◌, ◌==◌, ◌&&◌, ℕ, sym, ap, subst}
use Rattle.dpc_model.specs.NodeStates.{is_stabilization}
use Rattle.dpc_model.specs.declared.messages.NodeState.{NodeState}
use Rattle.dpc_model.specs.declared.messages.NodeState.TheVariants.{Stabilization}
use Rattle.node_model.specs.Nodes.{ready}
use Rattle.node_model.specs.NodeSteps.{after_stable_buckets}
use Rattle.node_core.specs.Milling.{CanMill}
use Rattle.node_core.specs.Standing.{NodeValue}
use Rattle.node_core.specs.contracts.node.Node.{the_view}
use Rattle.node_core.proofs.Readying.{serves, told-ready, last-ready}
use Rattle.node_core.proofs.node.Node.is_last.Goals as goal

pub returns-then-eq : goal.returns-then-eq
returns-then-eq c =
    λ home p h.
    let v = the_view c.self.inside in
    let can : CanMill c.args.count home v p = subst (λ (w : NodeValue). CanMill c.args.count home w p) (sym c.self.view_is) h in
    let here : c.self.inside.state ≡ Stabilization = search rules in
    let state : p.state ≡ Stabilization = sym can.stands.state ∙ here in
    let all : c.ready.result ≡ ready home p = told-ready home v p c.ready.result can.stands (serves home v p c.args.count c.requires can) c.ready.ensures in
    ap (λ (k : ℕ). k == c.args.count) all ∙ last-ready home v p c.args.count c.requires can
    ∙ ap (λ (s : NodeState). is_stabilization s && ready home (after_stable_buckets home c.args.count p) == 0) (sym state)
