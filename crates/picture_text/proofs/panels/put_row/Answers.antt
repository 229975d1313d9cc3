use Rattle.std.proofs.Common.{ap, sym, ◌∙◌, ◌++◌, ◌∷◌, [], map}
use Rattle.dpc_lists.specs.Lists.{nth}
use Rattle.picture_text.specs.Text.{padded, letter_at}
use Rattle.picture_text.proofs.Loops.{three_parts, nth_read}
use Rattle.picture_text.proofs.panels.put_row.Goals as goal

pub returns : goal.returns
returns c =
    let label = nth_read [] c.index-labels-row.result c.args.labels.now c.args.row c.requires c.index-labels-row.is in
    let row = map (letter_at c.args.row) c.args.strips.now in
    c.in_ok-push.ensures.items ∙ ap (λ t. t ++ 10 ∷ []) (c.in_ok-put_letters.ensures ∙ ap (λ t. t ++ row) (c.in_ok-put_padded.ensures ∙ ap (λ w. c.args.text.now.items ++ padded w) (c.as_slice.ensures ∙ sym label)))
    ∙ three_parts c.args.text.now.items (padded (nth [] c.args.labels.now c.args.row)) row
