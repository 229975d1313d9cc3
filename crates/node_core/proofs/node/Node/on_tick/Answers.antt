use Rattle.std.proofs.Common.{rules, ◌≡◌, ◌∙◌, ◌++◌, List, true, false, sym, ap, subst}
use Rattle.node_links.specs.Linking.{nobody_can_help}
use Rattle.node_model.specs.NodeSteps.{with_fresh_start, tick_step}
use Rattle.law_node.proofs.FitNodes.{fit-afresh}
use Rattle.node_core.specs.declared.packets.Mail.{Mail}
use Rattle.node_core.specs.Standing.{NodeValue}
use Rattle.node_core.specs.Stepping.{Steps}
use Rattle.node_core.proofs.Serving.{sound-behind, sound-ticked, rest-serving, rest-afresh, rest-asking, whole-tick}
use Rattle.node_core.proofs.node.Node.on_tick.Goals as goal

pub serve-requires : goal.serve-requires
serve-requires c = sound-ticked c.args.now c.args.self.now c.end_marks.new.self c.count_tick.new.self c.end_marks.ensures.after c.count_tick.ensures.after c.requires

pub returns-then-not-self-clause-after : goal.returns-then-not-self-clause-after
returns-then-not-self-clause-after c =
    let w = c.count_tick.new.self in
    let here : c.self.inside.recovering ≡ false = search rules in
    let up : w.recovering ≡ false = ap (λ (v : NodeValue). v.recovering) (sym c.self.view_is) ∙ here in
    whole-tick c.args.now c.args.self.now c.end_marks.new.self w c.serve.new.self c.in_ok-mails.mails.items c.end_marks.ensures.after c.count_tick.ensures.after
    (rest-serving w c.serve.new.self c.in_ok-mails.mails.items up c.in_ok-mails.ensures.after)

pub serve-requires-then-nobody_can_help : goal.serve-requires-then-nobody_can_help
serve-requires-then-nobody_can_help c =
    sound-behind (λ home p. with_fresh_start p) c.count_tick.new.self c.start_afresh.new.self fit-afresh c.start_afresh.ensures.after
    (sound-ticked c.args.now c.args.self.now c.end_marks.new.self c.count_tick.new.self c.end_marks.ensures.after c.count_tick.ensures.after c.requires)

pub returns-then-nobody_can_help-clause-after : goal.returns-then-nobody_can_help-clause-after
returns-then-nobody_can_help-clause-after c =
    let w = c.count_tick.new.self in
    let here : c.self.inside.recovering ≡ true = search rules in
    let down : w.recovering ≡ true = ap (λ (v : NodeValue). v.recovering) (sym c.self.view_is) ∙ here in
    let alone : nobody_can_help w.links.me w.links.known ≡ true =
    ap (λ (v : NodeValue). nobody_can_help v.links.me v.links.known) (sym c.self.view_is) ∙ sym c.nobody_can_help.ensures ∙ c.if-nobody_can_help.true in
    whole-tick c.args.now c.args.self.now c.end_marks.new.self w c.serve-then-nobody_can_help.new.self c.in_ok-mails-2.mails.items c.end_marks.ensures.after c.count_tick.ensures.after
    (rest-afresh w c.start_afresh.new.self c.serve-then-nobody_can_help.new.self c.in_ok-mails-2.mails.items down alone c.start_afresh.ensures.after c.in_ok-mails-2.ensures.after)

pub announce-requires : goal.announce-requires
announce-requires c = sound-ticked c.args.now c.args.self.now c.end_marks.new.self c.count_tick.new.self c.end_marks.ensures.after c.count_tick.ensures.after c.requires

pub returns-clause-after : goal.returns-clause-after
returns-clause-after c =
    let w = c.count_tick.new.self in
    let here : c.self.inside.recovering ≡ true = search rules in
    let down : w.recovering ≡ true = ap (λ (v : NodeValue). v.recovering) (sym c.self.view_is) ∙ here in
    let helped : nobody_can_help w.links.me w.links.known ≡ false =
    ap (λ (v : NodeValue). nobody_can_help v.links.me v.links.known) (sym c.self.view_is) ∙ sym c.nobody_can_help.ensures ∙ c.if-nobody_can_help.false in
    subst (λ (ms : List Mail). Steps (λ home p. tick_step home c.args.now p) c.args.self.now w ms) (sym c.in_ok-append.ensures.items)
    (whole-tick c.args.now c.args.self.now c.end_marks.new.self w w (c.in_ok-mails-3.mails.items ++ c.in_ok-announce.field-0.items) c.end_marks.ensures.after c.count_tick.ensures.after
    (rest-asking w w w c.in_ok-mails-3.mails.items c.in_ok-announce.field-0.items down helped (c.in_ok-mails-3.ensures {u = tt}) (c.in_ok-announce.ensures {u = tt})))
