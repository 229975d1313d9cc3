use Rattle.std.proofs.Common.{rules, ◌≡◌, Some}
use Rattle.world_model.specs.Worlds.{home_of}
use Rattle.world_parts.proofs.LentWork.{spare-of}
use Rattle.world_parts.proofs.SlotWork.{slot-plain, slot-order}
use Rattle.world_parts.proofs.slots.Slot.lend.Goals as goal

pub lend-requires-clause-spare : goal.lend-requires-clause-spare
lend-requires-clause-spare c = λ fresh.
    let up : c.args.self.now.node ≡ Some c.in-Some.node.now = search rules in
    let home = home_of c.args.plan.now (c.args.frag, c.requires.0) in
    let here = slot-plain home c.args.self.now c.requires.1 c.in-Some.node.now up c.requires.3 in
    let made = c.in_ok-spare.ensures {u = tt} in
    (home, here.plain, here.stands, spare-of c.args.plan.now c.args.frag c.requires.0 c.in_ok-spare.spare c.requires.2.frag made.operators made.width made.fresh)

pub returns-clause-some : goal.returns-clause-some
returns-clause-some c =
    let up : c.args.self.now.node ≡ Some c.in-Some.node.now = search rules in
    slot-order c.args.self.now c.in-Some.node.now c.ready.result c.min-count.result c.in-Ok.order up c.ready.ensures c.min-count.ensures (c.in-Ok.ensures {u = tt}).order
