use Rattle.std.proofs.Common.{rules, ◌≡◌, Some, ap, subst}
use Rattle.fragment_mill.specs.Mills.{MillState}
use Rattle.mill_work.specs.Milling.{MilledValue}
use Rattle.node_core.specs.Milling.{CanBeMilled}
use Rattle.world_parts.specs.Parts.{SlotValue}
use Rattle.world_parts.proofs.LentWork.{slot-work, slot-late, slot-stays, slot-stepped}
use Rattle.world_parts.proofs.PartFrames.{handed_on}
use Rattle.world_parts.proofs.slots.Slot.put_back.Goals as goal

pub returns-in_err-mails-clause-stale : goal.returns-in_err-mails-clause-stale
returns-in_err-mails-clause-stale c = λ had needed told.
    let v = c.args.self.now in
    let up : v.node ≡ Some c.in-Some.node.now = search rules in
    let stale = (c.in_err-mails.ensures {u = tt}).stale had needed (handed_on c.from_residual.result _ _ c.from_residual.ensures.1 told) in (
      slot-stays v c.self.inside.last_inc c.in-Some.node.now c.put_back.new.self (ap (λ (s : SlotValue). s.last_inc) c.self.view_is) up stale.stays,
      λ home x can. slot-late c.args.done.order had needed home v x c.in-Some.node.now c.put_back.new.self up stale can,
    )

pub returns-clause-ok : goal.returns-clause-ok
returns-clause-ok c = λ home x can.
    let v = c.args.self.now in
    let o = c.args.done.order in
    let up : v.node ≡ Some c.in-Some.node.now = search rules in
    let order : CanBeMilled o = subst (λ (d : MilledValue MillState). CanBeMilled d.order) c.done.view_is c.done.invariant.order in
    slot-stepped o home v c.self.inside.last_inc x c.in-Some.node.now c.put_back.new.self c.in_ok-mails.mails.items (ap (λ (s : SlotValue). s.last_inc) c.self.view_is) up order.some order.few
    (c.in_ok-mails.ensures {u = tt}).ok (c.in_ok-mails.ensures {u = tt}).kept can

pub returns-clause-fits : goal.returns-clause-fits
returns-clause-fits c = λ home x can.
    let up : c.args.self.now.node ≡ Some c.in-Some.node.now = search rules in
    slot-work c.args.done.order home c.args.self.now x c.in-Some.node.now up (c.in_ok-mails.ensures {u = tt}).ok.work can
