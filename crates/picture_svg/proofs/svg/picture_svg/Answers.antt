use Rattle.std.proofs.Common.{◌≡◌, ◌+◌, ◌++◌, length, ap, ◌∙◌, rules, codes, List, ℕ}
use Rattle.dpc_model.specs.Words.{spaced}
use Rattle.picture_text.specs.Text.{title_words}
use Rattle.picture_svg.specs.Layout.{client_top}
use Rattle.picture_svg.specs.Svg.{head_text, width_of, told_of, axis_text, all_lanes, node_labels, marks_text, legend_top, legend_text, picture_svg}
use Rattle.picture_svg.proofs.Parts.{all_parts}
use Rattle.picture_svg.proofs.svg.picture_svg.Goals as goal

pub returns : goal.returns
unfolding picture_svg
returns c =
    let plan = c.args.plan.now in
    let columns = c.args.columns.now in
    let many : c.len-2.result ≡ length c.in_ok-labels.labels.items = search rules in
    let low : c.client_top-low.result ≡ legend_top plan =
    c.client_top-low.ensures.top ∙ ap (λ n. client_top n c.len-2.result c.len-3.result) c.len.ensures
    ∙ ap (λ n. client_top (length plan.sources) n c.len-3.result) (many ∙ ap (λ ls. length ls) c.in_ok-labels.ensures) ∙ ap (λ n. client_top (length plan.sources) (length (node_labels plan)) n) c.len-3.ensures in
    let words = spaced (title_words columns) in
    all_parts (head_text (width_of columns) (legend_top plan + 130) words (told_of plan columns)) (axis_text columns) (all_lanes plan (node_labels plan) columns) (marks_text plan columns) (legend_text (legend_top plan)) (codes "</svg>") _ _ _ _ _ _ _
    (c.in_ok-put_head.ensures ∙ ap (λ (t : List ℕ). t ++ head_text c.width_of.result (c.client_top-low.result + 130) c.as_slice.result.now c.as_slice-2.result.now) c.new-text.ensures.items
    ∙ ap (λ n. head_text n (c.client_top-low.result + 130) c.as_slice.result.now c.as_slice-2.result.now) c.width_of.ensures ∙ ap (λ n. head_text (width_of columns) (n + 130) c.as_slice.result.now c.as_slice-2.result.now) low
    ∙ ap (λ w. head_text (width_of columns) (legend_top plan + 130) w c.as_slice-2.result.now) (c.as_slice.ensures.value ∙ c.in_ok-title.ensures)
    ∙ ap (λ t. head_text (width_of columns) (legend_top plan + 130) words t) (c.as_slice-2.ensures.value ∙ c.in_ok-told.ensures))
    c.in_ok-put_axis.ensures
    (c.in_ok-put_lanes.ensures ∙ ap (λ ls. c.put_axis.new.text.items ++ all_lanes plan ls columns) (c.as_slice-3.ensures.value ∙ c.in_ok-labels.ensures))
    c.in_ok-put_all_marks.ensures
    (c.in_ok-put_legend.ensures ∙ ap (λ n. c.put_all_marks.new.text.items ++ legend_text n) low)
    c.in_ok-put_first.ensures.put c.in_ok-end_line.ensures.put
