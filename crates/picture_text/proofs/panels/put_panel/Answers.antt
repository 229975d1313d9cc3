use Rattle.std.proofs.Common.{◌++◌, ◌∷◌, []}
use Rattle.picture_text.specs.Text.{row_text}
use Rattle.picture_text.proofs.Loops.{flat_grows}
use Rattle.picture_text.proofs.panels.put_panel.Goals as goal

pub loop-row-preserved : goal.loop-row-preserved
loop-row-preserved c =
    flat_grows (row_text c.args.labels.now c.args.strips.now) c.loop-row.row (c.args.text.now.items ++ 10 ∷ []) c.loop-row.text.items _ c.loop-row.invariant c.in_ok-put_row.ensures
