use Rattle.std.proofs.Common.{◌≡◌, ◌∙◌, ap, sym, arith, take, get_or, List}
use Rattle.std.specs.Prelude.{sum_by}
use Rattle.std.proofs.lemmas.List.{take_all}
use Rattle.std.proofs.lemmas.List.Sums.{sum_by_more, sum_by_more_le}
use Rattle.dpc_model.specs.declared.plans.FragSpec.{FragSpec}
use Rattle.script_draft.proofs.Nodes.{replicas, few-nodes, many-nodes}
use Rattle.script_draft.proofs.draft.actors.count_nodes.Goals as goal

pub overflow_add-count : goal.overflow_add-count
overflow_add-count c =
    let so_far : c.loop-frag.count ≡ sum_by replicas (take c.loop-frag.frag-index c.args.frags.now) = c.loop-frag.invariant in
    let one : replicas (get_or c.args.frags.now c.loop-frag.frag-index c.frag-item.result) ≡ c.frag-item.result.replicas = ap replicas (sym c.frag-item.is) in
    let more = sum_by_more_le replicas c.args.frags.now c.loop-frag.frag-index c.frag-item.result c.loop-frag-test.true in
    let few = few-nodes c.args.frags.now c.requires in omega (arith, so_far, one, more, few)

pub loop-frag-preserved : goal.loop-frag-preserved
loop-frag-preserved c =
    let so_far : c.loop-frag.count ≡ sum_by replicas (take c.loop-frag.frag-index c.args.frags.now) = c.loop-frag.invariant in
    let one : replicas (get_or c.args.frags.now c.loop-frag.frag-index c.frag-item.result) ≡ c.frag-item.result.replicas = ap replicas (sym c.frag-item.is) in
    let more = sum_by_more replicas c.args.frags.now c.loop-frag.frag-index c.frag-item.result c.loop-frag-test.true in
    omega (arith, so_far, one, more)

pub returns : goal.returns
returns c =
    let so_far : c.loop-frag.count ≡ sum_by replicas (take c.loop-frag.frag-index c.args.frags.now) = c.loop-frag.invariant in
    let all : c.loop-frag.count ≡ sum_by replicas c.args.frags.now = so_far ∙ ap (λ (fs : List FragSpec). sum_by replicas fs) (take_all c.loop-frag.frag-index c.args.frags.now c.loop-frag-test.false) in
    let few = few-nodes c.args.frags.now c.requires in
    record { count = all ∙ sym (many-nodes 0 c.args.frags.now); few = omega (arith, all, few) }
