use Rattle.std.proofs.Common.{◌≡◌}
use Rattle.std.specs.Prelude.{flat_map}
use Rattle.dpc_lists.specs.Lists.{range_with_len}
use Rattle.picture_svg.specs.Lanes.{rose_place}
use Rattle.picture_svg.proofs.lines.rose_places.Given as goal

abbrev pub invariant-loop-j : goal.invariant-loop-j
invariant-loop-j l = l.places.items ≡ flat_map (rose_place l.step l.shift l.values) (range_with_len 0 l.j)
