use Rattle.std.proofs.Common.{ap, ◌∙◌, ◌++◌, ◌∷◌, []}
use Rattle.dpc_lists.specs.Lists.{nth}
use Rattle.picture_model.specs.Points.{first_point}
use Rattle.picture_text.specs.Signs.{source_sign}
use Rattle.picture_text.specs.Strips.{source_at}
use Rattle.picture_text.proofs.Loops.{map_grows}
use Rattle.picture_text.proofs.strips.put_sources.Goals as goal

pub loop-i-preserved : goal.loop-i-preserved
loop-i-preserved c =
    let end = c.args.end in
    let before = c.args.before.now in
    map_grows (source_at end before c.args.now.now) c.loop-i.i c.args.strip.now.items c.loop-i.strip.items _ c.loop-i.invariant
    (c.in_ok-push.ensures.items
    ∙ ap (λ b. c.loop-i.strip.items ++ b ∷ [])
    (c.source_sign.ensures ∙ ap (λ p. source_sign end p c.source_point-in-loop-i.result) c.source_point.ensures ∙ ap (λ p. source_sign end (nth first_point before c.loop-i.i) p) c.source_point-in-loop-i.ensures))
