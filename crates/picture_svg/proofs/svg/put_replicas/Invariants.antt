use Rattle.std.proofs.Common.{◌≡◌, ◌++◌}
use Rattle.std.specs.Prelude.{flat_map}
use Rattle.dpc_lists.specs.Lists.{range_with_len}
use Rattle.picture_svg.specs.Svg.{replica_lane_at}
use Rattle.picture_svg.proofs.svg.put_replicas.Given as goal

abbrev pub invariant-loop-r : goal.invariant-loop-r
invariant-loop-r l = l.text.items ≡ l.fn.text.items ++ flat_map (replica_lane_at l.sources l.labels l.columns) (range_with_len 0 l.r)
