use Rattle.std.proofs.Common.{◌≡◌, ◌∙◌, List, length, ap, subst}
use Rattle.dpc_model.specs.declared.tuples.Tuple.{Tuple}
use Rattle.fragment_mill.specs.Mills.{MillState}
use Rattle.mill_work.specs.Milling.{OrderValue}
use Rattle.pipeline.specs.Committing.{IsDone}
use Rattle.node_core.specs.Stepping.{IsSound}
use Rattle.node_core.proofs.Committed.{put-there, put-steps, not-spent, handed-stale}
use Rattle.node_core.proofs.node.Node.commit.Goals as goal

pub put-requires : goal.put-requires
put-requires c =
    let v = c.args.self.now in
    let o = c.args.milled.order in
    let after : MillState = c.into_parts-order.result.1 in
    let outputs : List Tuple = c.into_parts-order.result.2 in
    let many : c.len-count.result ≡ length o.buckets = c.len-count.ensures ∙ ap (λ (q : OrderValue MillState). length q.buckets) (c.order.view_is ∙ c.into_parts-order.ensures.order) in
    let done : IsDone o after outputs = subst (λ (q : OrderValue MillState). IsDone q after outputs) c.into_parts-order.ensures.order c.into_parts-order.ensures.milled in
    let sound : IsSound v = c.requires (not-spent tt v.spent c.in-Ok.ensures.spent.1) in
    let work = c.in-Ok.ensures.ok sound.0 sound.1 sound.2 sound.3 in
    (sound.0, sound.1, put-there sound.0 v sound.1 o after outputs c.len-count.result many done sound.2 sound.3 work.fits)

pub returns-clause-ok : goal.returns-clause-ok
returns-clause-ok c =
    let v = c.args.self.now in
    let o = c.args.milled.order in
    let after : MillState = c.into_parts-order.result.1 in
    let outputs : List Tuple = c.into_parts-order.result.2 in
    let many : c.len-count.result ≡ length o.buckets = c.len-count.ensures ∙ ap (λ (q : OrderValue MillState). length q.buckets) (c.order.view_is ∙ c.into_parts-order.ensures.order) in
    let done : IsDone o after outputs = subst (λ (q : OrderValue MillState). IsDone q after outputs) c.into_parts-order.ensures.order c.into_parts-order.ensures.milled in
    record { work = c.in-Ok.ensures.ok; steps = put-steps v c.put.new.self o after outputs c.len-count.result c.in-Ok-put.mails.items many done c.in-Ok.ensures.ok c.in-Ok-put.ensures.after }

pub returns-in-Err-Stale-clause-stale : goal.returns-in-Err-Stale-clause-stale
returns-in-Err-Stale-clause-stale c =
    λ had needed e. c.in-Err-Stale.ensures.stale had needed (handed-stale _ _ _ _ _ had needed c.in-Err-Stale.field-0-is c.in-Err-Stale.had-is c.in-Err-Stale.needed-is e)
