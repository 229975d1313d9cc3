use Rattle.std.proofs.Common.{ap, ◌∙◌, ◌++◌, ◌∷◌, []}
use Rattle.picture_text.specs.Strips.{strip_at}
use Rattle.picture_text.proofs.Loops.{map_grows}
use Rattle.picture_text.proofs.strips.all_strips.Goals as goal

pub loop-i-preserved : goal.loop-i-preserved
loop-i-preserved c =
    map_grows (strip_at c.args.end c.args.columns.now) c.loop-i.i [] c.loop-i.strips.items _ c.loop-i.invariant
    (c.in_ok-push.ensures.items ∙ ap (λ s. c.loop-i.strips.items ++ s ∷ []) c.in_ok-strip_at.ensures)
