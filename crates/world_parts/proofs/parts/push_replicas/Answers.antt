use Rattle.std.proofs.Common.{arith}
use Rattle.world_parts.proofs.NewParts.{slots_stored, all_replicas}
use Rattle.world_parts.proofs.parts.push_replicas.Goals as goal

pub loop-replica-preserved : goal.loop-replica-preserved
loop-replica-preserved c =
    slots_stored c.args.plan.now c.args.frag c.loop-replica.replica c.loop-replica.nodes.items c.push.new.self.items c.in_ok-new_slot.field-0 c.args.nodes.now.items c.loop-replica.invariant c.in_ok-new_slot.ensures
    c.in_ok-push.ensures.items

pub returns : goal.returns
returns c =
    let low = c.loop-replica-test.false in
    let high = c.loop-replica.auto.replica-end in
    all_replicas c.args.plan.now c.args.frag c.loop-replica.replica c.as_slice.result.now c.index-as_slice-frag.result c.loop-replica.nodes.items c.args.nodes.now.items c.requires.frag c.as_slice.ensures c.index-as_slice-frag.is
    (omega (arith, low, high)) c.loop-replica.invariant
