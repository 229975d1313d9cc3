use Rattle.std.proofs.Common.{rules, ◌≡◌, Some}
use Rattle.world_parts.proofs.SlotWork.{slot-order}
use Rattle.world_parts.proofs.slots.Slot.order.Goals as goal

pub returns-clause-some : goal.returns-clause-some
returns-clause-some c =
    let up : c.args.self.now.node ≡ Some c.in-Some.node.now = search rules in
    slot-order c.args.self.now c.in-Some.node.now c.ready.result c.min-count.result c.in-Ok.order up c.ready.ensures c.min-count.ensures c.in-Ok.ensures.order
