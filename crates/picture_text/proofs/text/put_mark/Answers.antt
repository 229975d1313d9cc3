use Rattle.std.proofs.Common.{ap, ◌∙◌, ◌++◌, ◌∷◌, [], List, ℕ, codes, decimal}
use Rattle.line_writer.specs.Spaces.{behind_spaces}
use Rattle.line_writer.proofs.Lines.{behind_both, line_in_parts}
use Rattle.picture_text.specs.Text.{told_words}
use Rattle.picture_text.proofs.text.put_mark.Goals as goal

pub returns : goal.returns
returns c =
    let old = c.args.text.now.items in
    let number = decimal c.args.column.now.number ∷ [] in
    let clock = codes "clock" ∷ [] in
    let time = decimal c.args.column.now.clock ∷ [] in
    let told = told_words c.args.plan.now c.args.mark in
    rw (c.in_ok-end_line.ensures.put, c.in_ok-put_told.ensures, c.in_ok-put_number-2.ensures.put, c.in_ok-put_word.ensures.put, c.in_ok-put_number.ensures.put, c.in_ok-put_first.ensures.put)
    (ap (λ (t : List ℕ). ((t ++ behind_spaces time) ++ behind_spaces told) ++ 10 ∷ []) (behind_both (old ++ codes "phase") number clock)
    ∙ line_in_parts old (codes "phase") (number ++ clock) time told)
