use Rattle.std.proofs.Common.{ap, ◌∙◌, ◌++◌}
use Rattle.picture_text.specs.Text.{panel_text, strips_in}
use Rattle.picture_text.proofs.Loops.{flat_grows}
use Rattle.picture_text.proofs.panels.put_panels.Goals as goal

pub loop-panel-preserved : goal.loop-panel-preserved
loop-panel-preserved c =
    let labels = c.args.labels.now in
    let strips = c.args.strips.now in
    flat_grows (λ k. panel_text labels (strips_in strips k)) c.loop-panel.panel c.args.text.now.items c.loop-panel.text.items _ c.loop-panel.invariant
    (c.in_ok-put_panel.ensures ∙ ap (λ xs. c.loop-panel.text.items ++ panel_text labels xs) c.strips_in.ensures)
