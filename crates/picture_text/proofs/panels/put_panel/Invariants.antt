use Rattle.std.proofs.Common.{◌≡◌, ◌++◌, ◌∷◌, []}
use Rattle.std.specs.Prelude.{flat_map}
use Rattle.dpc_lists.specs.Lists.{range_with_len}
use Rattle.picture_text.specs.Text.{row_text}
use Rattle.picture_text.proofs.panels.put_panel.Given as goal

-- an empty line, and the first rows
abbrev pub invariant-loop-row : goal.invariant-loop-row
invariant-loop-row l = l.text.items ≡ l.fn.text.items ++ 10 ∷ [] ++ flat_map (row_text l.labels l.strips) (range_with_len 0 l.row)
