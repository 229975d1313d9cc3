use Rattle.std.proofs.Common.{◌≡◌}
use Rattle.std.specs.Prelude.{flat_map}
use Rattle.dpc_lists.specs.Lists.{range_with_len}
use Rattle.picture_svg.specs.Lanes.{new_place}
use Rattle.picture_svg.proofs.lines.new_places.Given as goal

abbrev pub invariant-loop-j : goal.invariant-loop-j
invariant-loop-j l = l.places.items ≡ flat_map (new_place l.step l.letters) (range_with_len 0 l.j)
