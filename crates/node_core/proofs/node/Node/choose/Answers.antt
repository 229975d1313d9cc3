use Rattle.std.proofs.Common.{rules, ◌≡◌, ◌+◌, ◌∙◌, List, ◌++◌, Option, length, ap, sym, subst, append-nil, option_to_list, arith}
use Rattle.node_model.specs.NodeSteps.{choice_step}
use Rattle.node_core.specs.declared.packets.Mail.{Mail}
use Rattle.node_core.specs.Standing.{NodeValue}
use Rattle.node_core.specs.Stepping.{Steps}
use Rattle.node_core.proofs.ChosenAll.{chosen_upto, HasChosen, none-chosen, more-chosen, all-chosen}
use Rattle.node_core.proofs.node.Node.choose.Goals.{in-Some+in_ok-push, in_default}
use Rattle.node_core.proofs.node.Node.choose.Goals as goal

pub loop-port-init : goal.loop-port-init
loop-port-init c = record {
  chosen = subst (λ (ms : List Mail). HasChosen 0 c.args.self.now c.args.self.now ms) (sym c.new-mails.ensures.items) (none-chosen c.args.self.now);
  many = search rules;
  spent = search rules;
}

pub choose_at-requires-clause-port : goal.choose_at-requires-clause-port
choose_at-requires-clause-port c =
    let many : c.ports-port-end.result ≡ length c.args.self.now.links.known.upstreams = c.ports-port-end.ensures ∙ ap (λ (w : NodeValue). length w.links.known.upstreams) c.self.view_is in
    let here = c.loop-port.invariant.many in
    omega (arith, many, here)

pub choose_at-requires-clause-sound : goal.choose_at-requires-clause-sound
choose_at-requires-clause-sound c =
    let so = c.loop-port.invariant.chosen c.requires.0 c.requires.1 c.requires.2 c.requires.3 in (c.requires.0, chosen_upto c.loop-port.port c.requires.1, so.stands, so.fit)

pub loop-port-preserved : goal.loop-port-preserved
loop-port-preserved c =
    let more : c.match-branch-2.mails.items ≡ c.loop-port.mails.items ++ option_to_list c.in_ok-asked.field-0 =
    (elim c.match-branch-2.branch [
      | in-Some+in_ok-push w ↦ ap (λ ms. ms.items) w.mails-is ∙ w.in_ok-push.ensures.items ∙ ap (λ (o : Option Mail). c.loop-port.mails.items ++ option_to_list o) (sym w.in-Some.is)
      | in_default w ↦ ap (λ ms. ms.items) w.mails-is ∙ sym (append-nil c.loop-port.mails.items) ∙ ap (λ (o : Option Mail). c.loop-port.mails.items ++ option_to_list o) (sym w.in_default.is)
    ]) in
    let many : c.ports-port-end.result ≡ length c.args.self.now.links.known.upstreams = c.ports-port-end.ensures ∙ ap (λ (w : NodeValue). length w.links.known.upstreams) c.self.view_is in
    let here = c.loop-port.invariant.many in
    record {
      chosen =
          subst (λ (ms : List Mail). HasChosen (c.loop-port.port + 1) c.args.self.now c.choose_at.new.self ms) (sym more)
          (more-chosen c.loop-port.port c.args.self.now c.loop-port.self c.choose_at.new.self c.loop-port.mails.items (option_to_list c.in_ok-asked.field-0) (omega (arith, many, here)) c.loop-port.invariant.chosen c.in_ok-asked.ensures.after);
      many = c.in_ok-asked.ensures.ports ∙ here;
      spent = c.choose_at.ensures.spent ∙ c.loop-port.invariant.spent;
    }

pub returns-clause-after : goal.returns-clause-after
returns-clause-after c =
    let many : c.ports-port-end.result ≡ length c.args.self.now.links.known.upstreams = c.ports-port-end.ensures ∙ ap (λ (w : NodeValue). length w.links.known.upstreams) c.self.view_is in
    let last : c.loop-port.port ≡ length c.args.self.now.links.known.upstreams = omega (arith, many) in
    subst (λ (ms : List Mail). Steps choice_step c.args.self.now c.loop-port.self ms) (sym (c.in_ok-mails.ensures {u = tt}))
    (all-chosen c.loop-port.port c.args.self.now c.loop-port.self c.loop-port.mails.items last c.loop-port.invariant.chosen)
