use Rattle.std.proofs.Common.{rules, ◌≡◌, Some, Err, ap}
use Rattle.world_parts.proofs.LentWork.{slot-late, slot-unspent}
use Rattle.world_parts.proofs.PartFrames.{handed_on}
use Rattle.world_parts.proofs.slots.Slot.compare_done.Goals as goal

pub returns-in_err-compare_done-clause-stale : goal.returns-in_err-compare_done-clause-stale
returns-in_err-compare_done-clause-stale c = λ had needed told home x can.
    let up : c.args.self.now.node ≡ Some c.in-Some.node.now = search rules in
    slot-late c.args.done.now.order had needed home c.args.self.now x c.in-Some.node.now c.in-Some.node.now up
    ((c.in_err-compare_done.ensures {u = tt}).stale had needed (handed_on c.from_residual.result _ _ c.from_residual.ensures.1 told)) can

pub returns-in_err-compare_done-clause-enough : goal.returns-in_err-compare_done-clause-enough
returns-in_err-compare_done-clause-enough c = λ told. (c.in_err-compare_done.ensures {u = tt}).enough (handed_on c.from_residual.result _ _ c.from_residual.ensures.1 told)

pub returns-in_err-compare_done-clause-unspent : goal.returns-in_err-compare_done-clause-unspent
returns-in_err-compare_done-clause-unspent c = λ home x can told.
    let up : c.args.self.now.node ≡ Some c.in-Some.node.now = search rules in
    slot-unspent home c.args.self.now x c.in-Some.node.now up can ((c.in_err-compare_done.ensures {u = tt}).spent.0 (handed_on c.from_residual.result _ _ c.from_residual.ensures.1 told))
