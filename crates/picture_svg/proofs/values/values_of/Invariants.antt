use Rattle.std.proofs.Common.{◌≡◌, map}
use Rattle.dpc_lists.specs.Lists.{range_with_len}
use Rattle.picture_svg.specs.Layout.{column_at}
use Rattle.picture_svg.specs.Values.{value_of}
use Rattle.picture_svg.proofs.values.values_of.Given as goal

abbrev pub invariant-loop-j : goal.invariant-loop-j
invariant-loop-j l = l.values.items ≡ map (λ j. value_of l.what (column_at l.columns j)) (range_with_len 0 l.j)
