use Rattle.std.proofs.Common.{◌≡◌, ◌-◌, ◌++◌, [], length, take, refl, sym, ap, ◌∙◌, arith}
use Rattle.std.specs.Prelude.{flat_map}
use Rattle.std.proofs.lemmas.List.{length-append, length-map}
use Rattle.std.proofs.lemmas.Option.{slice_get_read}
use Rattle.dpc_model.specs.Words.{text_of}
use Rattle.line_writer.proofs.Lines.{text_in_parts}
use Rattle.picture_text.specs.Text.{mark_words, mark_lines}
use Rattle.picture_svg.proofs.Parts.{take-both, take-none, flat-got}
use Rattle.picture_svg.proofs.marks.first_marks.Goals as goal

pub loop-column-init : goal.loop-column-init
loop-column-init c = (c.new-told.ensures.items ∙ ap text_of (sym (take-none c.args.most)), omega arith)

pub loop-column-preserved : goal.loop-column-preserved
loop-column-preserved c =
    let columns = c.args.columns.now in
    let most = c.args.most in
    let lines = mark_lines c.args.plan.now in
    let i = c.loop-column.column-index in
    let column = c.column-item.result in
    let before = flat_map lines (take i columns) in
    let more = flat-got lines columns i column (slice_get_read columns (length columns) i column refl c.loop-column-test.true c.column-item.is) in
    let many = length-append before (lines column) in
    let marks = length-map column.marks (mark_words c.args.plan.now column) in
    let whole = ap (λ ls. length ls) more in
    let put = c.in_ok-left.ensures {u = tt} in
    let old = c.loop-column.invariant in (
      put.0 ∙ ap (λ t. t ++ text_of (take c.loop-column.left (lines column))) old.0 ∙ ap (λ n. text_of (take most before) ++ text_of (take n (lines column))) old.1
          ∙ text_in_parts [] (take most before) (take (most - length before) (lines column)) ∙ ap text_of (take-both most before (lines column)) ∙ ap (λ ls. text_of (take most ls)) (sym more),
      omega (arith, put.1, old.1, many, marks, whole),
    )
