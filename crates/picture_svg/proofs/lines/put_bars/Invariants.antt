use Rattle.std.proofs.Common.{◌≡◌, ◌++◌}
use Rattle.std.specs.Prelude.{flat_map}
use Rattle.dpc_lists.specs.Lists.{range_with_len}
use Rattle.picture_svg.specs.Lanes.{bar_at}
use Rattle.picture_svg.proofs.lines.put_bars.Given as goal

abbrev pub invariant-loop-j : goal.invariant-loop-j
invariant-loop-j l = l.moves.items ≡ l.fn.moves.items ++ flat_map (bar_at l.step l.y l.letter l.letters) (range_with_len 0 l.j)
