use Rattle.std.proofs.Common.{ap, ◌∙◌, ◌++◌, take}
use Rattle.std.specs.Prelude.{flat_map}
use Rattle.dpc_model.specs.Words.{text_of}
use Rattle.picture_text.specs.Text.{mark_lines}
use Rattle.picture_text.proofs.Loops.{flat_grows}
use Rattle.picture_svg.specs.Layout.{left_at}
use Rattle.picture_svg.specs.Marks.{kinds_in}
use Rattle.picture_svg.specs.Svg.{step_of, group_at, mark_text, mark_at, told_at}
use Rattle.picture_svg.proofs.axis.put_all_marks.Goals as goal

pub loop-j-preserved : goal.loop-j-preserved
loop-j-preserved c =
    let plan = c.args.plan.now in
    let columns = c.args.columns.now in
    let j = c.loop-j.j in
    let text = c.loop-j.text.items in
    let low = c.args.low in
    let x = left_at (step_of columns) j in
    let kinds = kinds_in (group_at columns j) in
    flat_grows (mark_at plan columns) j c.args.text.now.items text _ c.loop-j.invariant
    (c.in_ok-put_mark_text.ensures
    ∙ ap (λ n. text ++ mark_text n low c.as_slice.result.now c.as_slice-in-loop-j.result.now) (c.left_at.ensures.left ∙ ap (λ n. left_at n j) c.step_of-step.ensures.step)
    ∙ ap (λ k. text ++ mark_text x low k c.as_slice-in-loop-j.result.now) (c.as_slice.ensures.value ∙ c.in_ok-kinds.ensures ∙ ap kinds_in c.group_at-group.ensures)
    ∙ ap (λ t. text ++ mark_text x low kinds t) (c.as_slice-in-loop-j.ensures.value ∙ c.in_ok-told.ensures ∙ ap (λ cs. text_of (take 8 (flat_map (mark_lines plan) cs))) c.group_at-group.ensures)
    ∙ ap (λ h. text ++ mark_text x h kinds (told_at plan columns j)) c.requires)
