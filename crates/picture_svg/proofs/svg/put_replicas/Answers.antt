use Rattle.std.proofs.Common.{ap, sym, ◌∙◌, ◌++◌, []}
use Rattle.dpc_lists.specs.Lists.{nth}
use Rattle.picture_text.proofs.Loops.{flat_grows, nth_read}
use Rattle.picture_svg.specs.Lanes.{replica_lane}
use Rattle.picture_svg.specs.Svg.{step_of, replica_lane_at}
use Rattle.picture_svg.proofs.svg.put_replicas.Goals as goal

pub loop-r-preserved : goal.loop-r-preserved
loop-r-preserved c =
    let labels = c.args.labels.now in
    let columns = c.args.columns.now in
    let r = c.loop-r.r in
    let text = c.loop-r.text.items in
    let here = nth_read [] c.index-labels-r.result labels r c.loop-r-test.true c.index-labels-r.is in
    flat_grows (replica_lane_at c.args.sources labels columns) r c.args.text.now.items text _ c.loop-r.invariant
    (c.in_ok-put_replica.ensures ∙ ap (λ n. text ++ replica_lane n columns c.as_slice.result.now c.replica_top.result r) c.step_of-step.ensures.step
    ∙ ap (λ w. text ++ replica_lane (step_of columns) columns w c.replica_top.result r) (c.as_slice.ensures ∙ sym here)
    ∙ ap (λ y. text ++ replica_lane (step_of columns) columns (nth [] labels r) y r) c.replica_top.ensures.top)
