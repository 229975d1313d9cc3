use Rattle.std.proofs.Common.{ap, ◌∙◌, ◌++◌, ◌∷◌, [], decimal}
use Rattle.picture_text.proofs.Loops.{map_grows}
use Rattle.picture_text.proofs.labels.put_replicas.Goals as goal

pub loop-replica-preserved : goal.loop-replica-preserved
loop-replica-preserved c =
    map_grows (λ r. c.args.frag.now.name ++ 46 ∷ decimal r) c.loop-replica.replica c.args.labels.now.items c.loop-replica.labels.items _ c.loop-replica.invariant
    (c.in_ok-push.ensures.items ∙ ap (λ w. c.loop-replica.labels.items ++ w ∷ []) (c.in_ok-node_name.ensures ∙ ap (λ w. w ++ 46 ∷ decimal c.loop-replica.replica) c.as_slice.ensures))
