use Rattle.std.proofs.Common.{◌≡◌, ◌<◌, List, length, slice_index_or, subst, arith}
use Rattle.dpc_model.specs.declared.plans.FragSpec.{FragSpec}
use Rattle.saves_commands.proofs.Disks.{nodes-next}
use Rattle.saves_commands.proofs.answering.disks_for.Goals as goal

pub loop-frag-preserved : goal.loop-frag-preserved
loop-frag-preserved c =
    let frags = c.args.plan.now.frags in
    let is = c.as_slice-frag-items.ensures in
    let low : c.loop-frag.frag-index < length frags = subst (λ (fs : List FragSpec). c.loop-frag.frag-index < length fs) is c.loop-frag-test.true in
    let item = subst (λ (fs : List FragSpec). c.frag-item.result ≡ slice_index_or fs c.loop-frag.frag-index c.frag-item.result) is c.frag-item.is in
    let next = nodes-next frags c.loop-frag.frag-index c.frag-item.result low item in
    let many = c.loop-frag.invariant.many in
    let more = (c.in_ok-push_disks.ensures {u = tt}).many in
    record { many = omega (arith, next, many, more); size = c.push_disks.ensures.size c.loop-frag.invariant.size }
