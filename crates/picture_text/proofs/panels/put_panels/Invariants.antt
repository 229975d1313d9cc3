use Rattle.std.proofs.Common.{◌≡◌, ◌++◌}
use Rattle.std.specs.Prelude.{flat_map}
use Rattle.dpc_lists.specs.Lists.{range_with_len}
use Rattle.picture_text.specs.Text.{panel_text, strips_in}
use Rattle.picture_text.proofs.panels.put_panels.Given as goal

abbrev pub invariant-loop-panel : goal.invariant-loop-panel
invariant-loop-panel l = l.text.items ≡ l.fn.text.items ++ flat_map (λ k. panel_text l.labels (strips_in l.strips k)) (range_with_len 0 l.panel)
