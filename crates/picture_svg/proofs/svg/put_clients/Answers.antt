use Rattle.std.proofs.Common.{ap, ◌∙◌, ◌++◌}
use Rattle.dpc_model.specs.ScriptText.{client_name}
use Rattle.picture_text.proofs.Loops.{flat_grows}
use Rattle.picture_svg.specs.Lanes.{client_lane}
use Rattle.picture_svg.specs.Layout.{client_top}
use Rattle.picture_svg.specs.Svg.{step_of, client_lane_at}
use Rattle.picture_svg.proofs.svg.put_clients.Goals as goal

pub loop-c-preserved : goal.loop-c-preserved
loop-c-preserved c =
    let plan = c.args.plan.now in
    let columns = c.args.columns.now in
    let k = c.loop-c.c in
    let text = c.loop-c.text.items in
    flat_grows (client_lane_at c.args.replicas plan columns) k c.args.text.now.items text _ c.loop-c.invariant
    (c.in_ok-put_client.ensures ∙ ap (λ n. text ++ client_lane n columns c.client_name.result.now c.client_top.result k) c.step_of-step.ensures.step
    ∙ ap (λ w. text ++ client_lane (step_of columns) columns w c.client_top.result k) c.client_name.ensures
    ∙ ap (λ y. text ++ client_lane (step_of columns) columns (client_name plan k) y k) (c.client_top.ensures.top ∙ ap (λ n. client_top n c.args.replicas k) c.len-sources.ensures))
