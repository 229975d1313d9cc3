use Rattle.std.proofs.Common.{ap, ◌∙◌, ◌++◌}
use Rattle.dpc_model.specs.ScriptText.{source_name}
use Rattle.picture_text.proofs.Loops.{flat_grows}
use Rattle.picture_svg.specs.Lanes.{source_lane}
use Rattle.picture_svg.specs.Svg.{step_of, source_lane_at}
use Rattle.picture_svg.proofs.svg.put_sources.Goals as goal

pub loop-s-preserved : goal.loop-s-preserved
loop-s-preserved c =
    let plan = c.args.plan.now in
    let columns = c.args.columns.now in
    let s = c.loop-s.s in
    let text = c.loop-s.text.items in
    flat_grows (source_lane_at plan columns) s c.args.text.now.items text _ c.loop-s.invariant
    (c.in_ok-put_source.ensures ∙ ap (λ n. text ++ source_lane n plan.end columns c.source_name.result.now c.source_top.result s) c.step_of-step.ensures.step
    ∙ ap (λ w. text ++ source_lane (step_of columns) plan.end columns w c.source_top.result s) c.source_name.ensures
    ∙ ap (λ y. text ++ source_lane (step_of columns) plan.end columns (source_name plan s) y s) c.source_top.ensures.top)
