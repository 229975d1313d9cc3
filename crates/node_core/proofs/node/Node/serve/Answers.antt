use Rattle.std.proofs.Common.{◌≡◌, ◌∙◌, ◌++◌, List, sym, ap, subst}
use Rattle.node_model.specs.NodeSteps.{choice_step, ask_step, processing_step, serving_step}
use Rattle.node_core.specs.declared.packets.Mail.{Mail}
use Rattle.node_core.specs.Stepping.{Steps}
use Rattle.node_core.proofs.Serving.{sound-then, keeps-choice, keeps-ask, keeps-process, served}
use Rattle.node_core.proofs.node.Node.serve.Goals as goal

pub ask-requires : goal.ask-requires
ask-requires c = sound-then choice_step c.args.self.now c.choose.new.self c.in_ok-mails.mails.items (keeps-choice c.args.self.now) c.in_ok-mails.ensures.after c.requires

pub process-requires : goal.process-requires
process-requires c =
    sound-then ask_step c.choose.new.self c.ask.new.self c.in_ok-ask.field-0.items (keeps-ask c.choose.new.self) c.in_ok-ask.ensures.after
    (sound-then choice_step c.args.self.now c.choose.new.self c.in_ok-mails.mails.items (keeps-choice c.args.self.now) c.in_ok-mails.ensures.after c.requires)

pub announce-requires : goal.announce-requires
announce-requires c =
    sound-then processing_step c.ask.new.self c.process.new.self c.in_ok-process.field-0.items (keeps-process c.ask.new.self) c.in_ok-process.ensures.after
    (sound-then ask_step c.choose.new.self c.ask.new.self c.in_ok-ask.field-0.items (keeps-ask c.choose.new.self) c.in_ok-ask.ensures.after
    (sound-then choice_step c.args.self.now c.choose.new.self c.in_ok-mails.mails.items (keeps-choice c.args.self.now) c.in_ok-mails.ensures.after c.requires))

pub returns-clause-after : goal.returns-clause-after
returns-clause-after c =
    let all : c.append-3.new.self.items ≡ ((c.in_ok-mails.mails.items ++ c.in_ok-ask.field-0.items) ++ c.in_ok-process.field-0.items) ++ c.in_ok-announce.field-0.items =
    c.in_ok-append-3.ensures.items
    ∙ ap (λ (ms : List Mail). ms ++ c.in_ok-announce.field-0.items) (c.in_ok-append-2.ensures.items ∙ ap (λ (ms : List Mail). ms ++ c.in_ok-process.field-0.items) c.in_ok-append.ensures.items) in
    subst (λ (ms : List Mail). Steps serving_step c.args.self.now c.process.new.self ms) (sym all)
    (served c.args.self.now c.choose.new.self c.ask.new.self c.process.new.self c.process.new.self c.in_ok-mails.mails.items c.in_ok-ask.field-0.items c.in_ok-process.field-0.items c.in_ok-announce.field-0.items
    c.in_ok-mails.ensures.after c.in_ok-ask.ensures.after c.in_ok-process.ensures.after (c.in_ok-announce.ensures {u = tt}))
