use Rattle.std.proofs.Common.{subst, sym}
use Rattle.node_model.specs.Stands.{SnapValue}
use Rattle.fragment_mill.specs.Mills.{MillState}
use Rattle.node_model.specs.NodeSteps.{with_marks_ended}
use Rattle.node_core.specs.declared.packets.Packet as code
use Rattle.node_core.specs.Stepping.{CanTake, CanAdopt}
use Rattle.node_core.proofs.Answering.{if-ok}
use Rattle.node_core.proofs.Granting.{message-may, message-packed, snap-may, snap-packed}
use Rattle.node_core.proofs.node.Node.take.Goals as goal

pub on_message-requires : goal.on_message-requires
on_message-requires c =
    let home = c.requires.0 in
    let p = c.requires.1 in
    let q = c.requires.2 in
    let can = subst (λ (r : code.Packet). CanTake c.args.sender c.args.self.now r home p q) c.in-Plain.is c.requires.3 in
    (home, with_marks_ended p, message-may home c.args.sender c.args.self.now c.end_marks.new.self c.in-Plain.message p q can c.end_marks.ensures.after)

pub returns-in-Plain-clause-taken : goal.returns-in-Plain-clause-taken
returns-in-Plain-clause-taken c =
    if-ok _ _ c.on_message.result (λ mails taken home p q can0.
    let can = subst (λ (r : code.Packet). CanTake c.args.sender c.args.self.now r home p q) c.in-Plain.is can0 in
    let may = message-may home c.args.sender c.args.self.now c.end_marks.new.self c.in-Plain.message p q can c.end_marks.ensures.after in
    message-packed home c.args.sender c.args.self.now c.on_message.new.self c.in-Plain.message p q mails.items can (taken home (with_marks_ended p) may)) c.on_message.ensures.taken

pub on_snap-requires : goal.on_snap-requires
on_snap-requires c =
    let home = c.requires.0 in
    let p = c.requires.1 in
    let q = c.requires.2 in
    let can = subst (λ (r : code.Packet). CanTake c.args.sender c.args.self.now r home p q) c.in-SnapFor.is c.requires.3 in (
      home,
      with_marks_ended p,
      can.alike.0,
      subst (λ (s : SnapValue MillState). CanAdopt c.end_marks.new.self s home (with_marks_ended p) can.alike.0) (sym c.deref.ensures)
          (snap-may home c.args.sender c.in-SnapFor.inc c.in-SnapFor.number c.args.self.now c.end_marks.new.self c.in-SnapFor.snapshot p q can c.end_marks.ensures.after),
    )

pub returns-clause-taken : goal.returns-clause-taken
returns-clause-taken c = λ home p q can0.
    let can = subst (λ (r : code.Packet). CanTake c.args.sender c.args.self.now r home p q) c.in-SnapFor.is can0 in
    let may = subst (λ (s : SnapValue MillState). CanAdopt c.end_marks.new.self s home (with_marks_ended p) can.alike.0) (sym c.deref.ensures)
    (snap-may home c.args.sender c.in-SnapFor.inc c.in-SnapFor.number c.args.self.now c.end_marks.new.self c.in-SnapFor.snapshot p q can c.end_marks.ensures.after) in
    snap-packed home c.args.sender c.in-SnapFor.inc c.in-SnapFor.number c.args.self.now c.on_snap.new.self c.in-SnapFor.snapshot p q c.new.result.items can
    (c.in_ok-on_snap-in-SnapFor.ensures.after home (with_marks_ended p) can.alike.0 may) c.new.ensures.items
