use Rattle.std.proofs.Common.{sym, ◌∙◌, ap, List}
use Rattle.std.specs.Prelude.{sum_by}
use Rattle.std.proofs.lemmas.List.{take_all}
use Rattle.dpc_model.specs.declared.plans.FragSpec.{FragSpec}
use Rattle.picture_watch.proofs.Replicas.{count-nodes}
use Rattle.picture_watch.proofs.nodes.count_nodes.Goals as goal

pub returns : goal.returns
returns c =
    c.loop-frag.invariant ∙ ap (λ (frags : List FragSpec). sum_by (λ (frag : FragSpec). frag.replicas) frags) (take_all c.loop-frag.frag-index c.args.frags.now c.loop-frag-test.false)
    ∙ sym (count-nodes 0 c.args.frags.now)
