use Rattle.std.proofs.Common.{[], ◌∷◌, ◌++◌, ap, ◌∙◌}
use Rattle.picture_svg.specs.Layout.{column_at}
use Rattle.picture_svg.specs.Values.{value_of}
use Rattle.picture_text.proofs.Loops.{map_grows}
use Rattle.picture_svg.proofs.values.values_of.Goals as goal

pub loop-j-preserved : goal.loop-j-preserved
loop-j-preserved c =
    let what = c.args.what in
    map_grows (λ j. value_of what (column_at c.args.columns.now j)) c.loop-j.j [] c.loop-j.values.items _ c.loop-j.invariant
    (c.in_ok-push.ensures.items ∙ ap (λ v. c.loop-j.values.items ++ v ∷ []) (c.in_ok-value_of.ensures ∙ ap (value_of what) c.column_at.ensures))
