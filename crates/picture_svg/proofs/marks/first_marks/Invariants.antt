use Rattle.std.proofs.Common.{◌≡◌, ◌-◌, take, length}
use Rattle.std.specs.Prelude.{flat_map}
use Rattle.dpc_model.specs.Words.{text_of}
use Rattle.picture_text.specs.Text.{mark_lines}
use Rattle.picture_svg.proofs.marks.first_marks.Given as goal

-- the first lines of the first columns, and how many more there may be
abbrev pub invariant-loop-column : goal.invariant-loop-column
invariant-loop-column l =
    (l.told.items ≡ text_of (take l.fn.most (flat_map (mark_lines l.plan) (take l.column-index l.columns)))) × (l.left ≡ l.fn.most - length (flat_map (mark_lines l.plan) (take l.column-index l.columns)))
