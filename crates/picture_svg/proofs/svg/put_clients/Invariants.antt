use Rattle.std.proofs.Common.{◌≡◌, ◌++◌}
use Rattle.std.specs.Prelude.{flat_map}
use Rattle.dpc_lists.specs.Lists.{range_with_len}
use Rattle.picture_svg.specs.Svg.{client_lane_at}
use Rattle.picture_svg.proofs.svg.put_clients.Given as goal

abbrev pub invariant-loop-c : goal.invariant-loop-c
invariant-loop-c l = l.text.items ≡ l.fn.text.items ++ flat_map (client_lane_at l.replicas l.plan l.columns) (range_with_len 0 l.c)
