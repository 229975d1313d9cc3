use Rattle.std.proofs.Common.{rules, ◌≡◌, Some}
use Rattle.world_parts.proofs.PartFrames.{handed_on}
use Rattle.world_parts.proofs.SlotWork.{slot-stale}
use Rattle.world_parts.proofs.slots.Slot.compare.Goals as goal

pub returns-in_err-compare-clause-stale : goal.returns-in_err-compare-clause-stale
returns-in_err-compare-clause-stale c = λ had needed told.
    let up : c.args.self.now.node ≡ Some c.in-Some.node.now = search rules in
    slot-stale c.args.self.now c.in-Some.node.now c.args.milled.now.order had needed up
    ((c.in_err-compare.ensures {u = tt}).stale had needed (handed_on c.from_residual.result _ _ c.from_residual.ensures.1 told))
