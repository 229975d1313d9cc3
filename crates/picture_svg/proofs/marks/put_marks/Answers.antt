use Rattle.std.proofs.Common.{◌≡◌, ◌++◌, map, min, length, take, sym, ap, ◌∙◌, arith}
use Rattle.std.proofs.lemmas.List.{take_min, take-map}
use Rattle.dpc_model.specs.Words.{text_of}
use Rattle.picture_text.specs.Text.{mark_words}
use Rattle.picture_svg.proofs.marks.put_marks.Goals as goal

pub returns : goal.returns
returns c =
    let old = c.args.told.now.items in
    let left = c.args.left in
    let marks = c.args.column.now.marks in
    let words = mark_words c.args.plan.now c.args.column.now in
    let lent = c.as_slice-marks.result.now in
    let long : length lent ≡ length marks = ap (λ xs. length xs) c.as_slice-marks.ensures in
    let all : c.loop-i.i ≡ min left (length lent) = omega (arith, c.loop-i-test.false, c.loop-i.auto.i-end, c.min-count.ensures) in (
      c.loop-i.invariant
          ∙ ap (λ ls. old ++ text_of ls)
          (ap (λ n. map words (take n lent)) all ∙ ap (λ xs. map words (take (min left (length xs)) xs)) c.as_slice-marks.ensures ∙ ap (map words) (take_min left marks) ∙ sym (take-map words left marks)),
      omega (arith, c.min-count.ensures, long),
    )
