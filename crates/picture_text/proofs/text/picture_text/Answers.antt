use Rattle.std.proofs.Common.{ap, ◌∙◌, ◌++◌, List, ℕ}
use Rattle.std.specs.Prelude.{flat_map}
use Rattle.dpc_model.specs.Words.{line_of, text_of}
use Rattle.picture_text.specs.Strips.{strips_of}
use Rattle.picture_text.specs.Text.{title_words, labels_of, panels_text, mark_lines, summary_lines, last_column, legend_lines, picture_text}
use Rattle.picture_text.proofs.Loops.{six_parts}
use Rattle.picture_text.proofs.text.picture_text.Goals as goal

pub returns : goal.returns
unfolding picture_text
returns c =
    let plan = c.args.plan.now in
    let columns = c.args.columns.now in
    let first = c.put_title.new.text.items in
    let marked = c.put_all_marks.new.text.items in
    six_parts (line_of (title_words columns)) (panels_text (labels_of plan) (strips_of plan.end columns)) (text_of (flat_map (mark_lines plan) columns))
    (text_of (summary_lines plan (last_column columns).clients)) (text_of legend_lines) first _ _ marked _ _
    (c.in_ok-put_title.ensures ∙ ap (λ (t : List ℕ). t ++ line_of (title_words columns)) c.new-text.ensures.items)
    (c.in_ok-put_panels.ensures ∙ ap (λ ls. first ++ panels_text ls c.as_slice-2.result.now) (c.as_slice.ensures.value ∙ c.in_ok-labels.ensures)
    ∙ ap (λ ss. first ++ panels_text (labels_of plan) ss) (c.as_slice-2.ensures.value ∙ c.in_ok-strips.ensures))
    c.in_ok-end_line.ensures.put c.in_ok-put_all_marks.ensures
    (c.in_ok-put_summaries.ensures ∙ ap (λ cs. marked ++ text_of (summary_lines plan cs)) c.last_clients.ensures)
    c.in_ok-put_legend.ensures
