use Rattle.std.proofs.Common.{rules, ◌≡◌, ◌∙◌, ◌&&◌, sym, subst, ap, true, Bool}
use Rattle.dpc_model.specs.Granting.{may_enter_by}
use Rattle.dpc_model.specs.NodeStates.{is_up_failure}
use Rattle.node_core.specs.Standing.{NodeValue, StandsForNode}
use Rattle.node_core.proofs.Answering.{if-ok, steps-by}
use Rattle.node_core.proofs.Granting.{granted}
use Rattle.node_core.proofs.node.Node.on_grant.Goals as goal

pub returns-clause-after : goal.returns-clause-after
returns-clause-after c =
    let up : is_up_failure c.self.inside.state ≡ true = search rules in
    let may : (is_up_failure c.self.inside.state && may_enter_by c.self.inside.links.known.grants (c.args.inc, c.args.ask)) ≡ true =
    ap (λ (b : Bool). b && may_enter_by c.self.inside.links.known.grants (c.args.inc, c.args.ask)) up ∙ sym c.if-not-on_grant.ensures in
    if-ok _ _ c.enter.result (λ mails steps. steps-by _ _ _ _ (λ home p stands fit.
    let h = subst (λ (v : NodeValue). StandsForNode home v p) (sym c.self.view_is) stands in
    granted home _ c.enter.new.self p c.begin_ask.new.self c.args.inc c.args.ask _ h fit may c.begin_ask.ensures steps)) c.enter.ensures.after
