use Rattle.std.proofs.Common.{◌∙◌, ◌==◌, sym, subst, false, true}
use Rattle.dpc_lists.proofs.Places.{place-within}
use Rattle.node_core.specs.Standing.{NodeValue, StandsForNode}
use Rattle.node_core.proofs.Answering.{if-ok, steps-by, replica-is, asked-nobody, asked}
use Rattle.node_core.proofs.node.Node.on_ask.Goals as goal

pub returns-in_default-clause-after : goal.returns-in_default-clause-after
returns-in_default-clause-after c =
    steps-by _ _ _ _ (λ home p stands fit.
    let h = subst (λ (v : NodeValue). StandsForNode home v p) (sym c.self.view_is) stands in
    let found = replica-is home _ p c.args.sender _ h (sym c.in_default.is ∙ c.replica.ensures) in
    asked-nobody home c.args.self.now p c.args.sender c.args.inc c.args.ask _ stands found c.new.ensures.items)

pub on_ask-requires : goal.on_ask-requires
on_ask-requires c = place-within (λ a. c.args.sender == a) c.self.inside.links.replicas c.in-Some.r (sym c.replica.ensures ∙ c.in-Some.is)

pub returns-then-not-on_ask-clause-after : goal.returns-then-not-on_ask-clause-after
returns-then-not-on_ask-clause-after c =
    steps-by _ _ _ _ (λ home p stands fit.
    let h = subst (λ (v : NodeValue). StandsForNode home v p) (sym c.self.view_is) stands in
    let found = replica-is home _ p c.args.sender _ h (sym c.in-Some.is ∙ c.replica.ensures) in
    asked home _ p c.on_ask.new.self c.args.sender c.in-Some.r c.args.inc c.args.ask false _ h found c.if-not-on_ask.ensures.granted c.if-not-on_ask.ensures.after c.new-then-not-on_ask.ensures.items)

pub returns-clause-after : goal.returns-clause-after
returns-clause-after c =
    if-ok _ _ c.one.result (λ mails same. steps-by _ _ _ _ (λ home p stands fit.
    let h = subst (λ (v : NodeValue). StandsForNode home v p) (sym c.self.view_is) stands in
    let found = replica-is home _ p c.args.sender _ h (sym c.in-Some.is ∙ c.replica.ensures) in
    asked home _ p c.on_ask.new.self c.args.sender c.in-Some.r c.args.inc c.args.ask true _ h found c.if-not-on_ask.ensures.granted c.if-not-on_ask.ensures.after same)) c.one.ensures
