use Rattle.std.proofs.Common.{◌≡◌, ◌++◌, take}
use Rattle.std.specs.Prelude.{flat_map}
use Rattle.picture_svg.specs.Lanes.{rise}
use Rattle.picture_svg.specs.Shapes.{move_to}
use Rattle.picture_svg.proofs.lines.put_line.Given as goal

-- the pen is at the base, and went over the first values
abbrev pub invariant-loop-value : goal.invariant-loop-value
invariant-loop-value l = l.moves.items ≡ l.fn.moves.items ++ (move_to 170 l.base ++ flat_map (rise l.step l.room l.base l.whole) (take l.value-index l.values))
