use Rattle.std.proofs.Common.{rules, ◌≡◌, ◌∙◌, List, true, sym, ap, subst, Some}
use Rattle.node_links.specs.Linking.{peers_in}
use Rattle.node_links.specs.declared.links.Asked.{Asked}
use Rattle.node_model.specs.Nodes.{Home, PlainNode, wants_to_reconcile}
use Rattle.node_model.specs.NodeSteps.{ask_step}
use Rattle.node_core.specs.declared.packets.Mail.{Mail}
use Rattle.node_core.specs.Standing.{NodeValue, StandsForNode}
use Rattle.node_core.specs.Stepping.{IsSound, Steps}
use Rattle.node_core.specs.contracts.node.Node.{the_view}
use Rattle.node_core.proofs.Asking.{sound-asked, promised, entered, others-asked}
use Rattle.node_core.proofs.node.Node.ask.Goals as goal

pub enter-requires : goal.enter-requires
enter-requires c =
    sound-asked (the_view c.self.inside) c.ask.new.self c.ask.result (subst IsSound (sym c.self.view_is) c.requires) c.ask.ensures.after c.ask.ensures.asked
    (c.in-Some-Enter.is ∙ ap (λ (a : Asked). Some a) c.in-Some-Enter.field-0-is)

pub returns-in-None-clause-after : goal.returns-in-None-clause-after
returns-in-None-clause-after c =
    let v = the_view c.self.inside in
    let new : NodeValue = record v { links = c.ask.new.self } in
    subst (λ (w : NodeValue). Steps ask_step w new c.new-in-None.result.items) c.self.view_is
    (subst (λ (ms : List Mail). Steps ask_step v new ms) (sym c.new-in-None.ensures.items) (promised v c.ask.new.self c.ask.result c.ask.ensures.after c.ask.ensures.asked c.in-None.is))

pub returns-in_ok-mails-in-Some-Enter-clause-after : goal.returns-in_ok-mails-in-Some-Enter-clause-after
returns-in_ok-mails-in-Some-Enter-clause-after c =
    let v = the_view c.self.inside in
    let wants : c.wants_to_reconcile.result ≡ true = search rules in
    let wish : (home : Home) (p : PlainNode) → StandsForNode home v p → true ≡ wants_to_reconcile home p =
    λ home p h. sym wants ∙ c.wants_to_reconcile.ensures home p (subst (λ (w : NodeValue). StandsForNode home w p) c.self.view_is h) in
    subst (λ (w : NodeValue). Steps ask_step w c.enter.new.self c.in_ok-mails-in-Some-Enter.mails.items) c.self.view_is
    (entered v c.enter.new.self c.ask.new.self c.ask.result c.in_ok-mails-in-Some-Enter.mails.items wish c.ask.ensures.after c.ask.ensures.asked
    (c.in-Some-Enter.is ∙ ap (λ (a : Asked). Some a) c.in-Some-Enter.field-0-is) c.in_ok-mails-in-Some-Enter.ensures.after)

pub returns-in_ok-mails-in-Some-Ask-clause-after : goal.returns-in_ok-mails-in-Some-Ask-clause-after
returns-in_ok-mails-in-Some-Ask-clause-after c =
    let v = the_view c.self.inside in
    let wants : c.wants_to_reconcile.result ≡ true = search rules in
    let wish : (home : Home) (p : PlainNode) → StandsForNode home v p → true ≡ wants_to_reconcile home p =
    λ home p h. sym wants ∙ c.wants_to_reconcile.ensures home p (subst (λ (w : NodeValue). StandsForNode home w p) c.self.view_is h) in
    let new : NodeValue = record v { links = c.ask.new.self } in
    subst (λ (w : NodeValue). Steps ask_step w new c.in_ok-mails-in-Some-Ask.mails.items) c.self.view_is
    (others-asked v c.ask.new.self c.ask.result c.in-Some-Ask.inc c.in-Some-Ask.ask c.peers.result.now c.in_ok-mails-in-Some-Ask.mails.items wish c.ask.ensures.after c.ask.ensures.asked
    (c.in-Some-Ask.is ∙ ap (λ (a : Asked). Some a) c.in-Some-Ask.field-0-is) (c.peers.ensures ∙ ap peers_in c.ask.ensures.after) (c.in_ok-mails-in-Some-Ask.ensures {u = tt}))
