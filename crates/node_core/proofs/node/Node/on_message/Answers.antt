use Rattle.std.proofs.Common.{subst, refl}
use Rattle.dpc_model.specs.declared.messages.Message.{Message}
use Rattle.node_core.specs.Stepping.{CanTakeMessage}
use Rattle.node_core.proofs.Answering.{if-ok}
use Rattle.node_core.proofs.Granting.{told-by, silent-by}
use Rattle.node_core.proofs.node.Node.on_message.Goals.{in-Batch+in_ok-on_batch-in-Batch, in-Truncated+in_ok-on_truncated-in-Truncated, in-Beat, in-Ack}
use Rattle.node_core.proofs.node.Node.on_message.Goals as goal

pub returns-in-Subscribe-clause-taken : goal.returns-in-Subscribe-clause-taken
returns-in-Subscribe-clause-taken c =
    if-ok _ _ c.on_subscribe.result (λ mails steps home p can. told-by _ home p c.args.sender _ _ _ _ mails.items c.in-Subscribe.is can steps refl) c.on_subscribe.ensures.after

pub returns-in-Ask-clause-taken : goal.returns-in-Ask-clause-taken
returns-in-Ask-clause-taken c = if-ok _ _ c.on_ask.result (λ mails steps home p can. told-by _ home p c.args.sender _ _ _ _ mails.items c.in-Ask.is can steps refl) c.on_ask.ensures.after

pub returns-in-Grant-clause-taken : goal.returns-in-Grant-clause-taken
returns-in-Grant-clause-taken c = if-ok _ _ c.on_grant.result (λ mails steps home p can. told-by _ home p c.args.sender _ _ _ _ mails.items c.in-Grant.is can steps refl) c.on_grant.ensures.after

pub returns-in-SnapAsk-clause-taken : goal.returns-in-SnapAsk-clause-taken
returns-in-SnapAsk-clause-taken c =
    if-ok _ _ c.on_snap_ask.result (λ mails steps home p can. told-by _ home p c.args.sender _ _ _ _ mails.items c.in-SnapAsk.is can steps refl) c.on_snap_ask.ensures.after

pub returns-clause-taken : goal.returns-clause-taken
returns-clause-taken c = λ home p can.
    elim c.match-message.branch [
      | in-Batch+in_ok-on_batch-in-Batch w ↦
          silent-by home p _ c.args.sender _ c.match-message.self _ _ _ w.in-Batch.is w.self-is
          (w.in_ok-on_batch-in-Batch.ensures.taken home p (subst (λ (m : Message). CanTakeMessage c.args.sender c.args.self.now m home p) w.in-Batch.is can)) c.new.ensures.items refl
      | in-Truncated+in_ok-on_truncated-in-Truncated w ↦
          silent-by home p _ c.args.sender _ c.match-message.self _ _ _ w.in-Truncated.is w.self-is (w.in_ok-on_truncated-in-Truncated.ensures.after home p can.stands can.fit) c.new.ensures.items refl
      | in-Beat w ↦ silent-by home p _ c.args.sender _ c.match-message.self _ _ _ w.in-Beat.is w.self-is (w.on_beat.ensures.after home p can.stands can.fit) c.new.ensures.items refl
      | in-Ack w ↦ silent-by home p _ c.args.sender _ c.match-message.self _ _ _ w.in-Ack.is w.self-is (w.on_ack.ensures.after home p can.stands can.fit) c.new.ensures.items refl
    ]
