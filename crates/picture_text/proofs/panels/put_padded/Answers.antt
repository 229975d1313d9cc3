use Rattle.std.proofs.Common.{ap, ◌∙◌, ◌++◌, ◌∷◌, []}
use Rattle.dpc_lists.specs.Lists.{nth}
use Rattle.picture_text.proofs.Loops.{map_grows}
use Rattle.picture_text.proofs.panels.put_padded.Goals as goal

pub loop-i-preserved : goal.loop-i-preserved
loop-i-preserved c =
    map_grows (λ i. nth 32 c.args.label.now i) c.loop-i.i c.args.text.now.items c.loop-i.text.items _ c.loop-i.invariant
    (c.in_ok-push.ensures.items ∙ ap (λ b. c.loop-i.text.items ++ b ∷ []) c.byte_at.ensures)
