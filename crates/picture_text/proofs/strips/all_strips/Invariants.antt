use Rattle.std.proofs.Common.{◌≡◌, map}
use Rattle.dpc_lists.specs.Lists.{range_with_len}
use Rattle.picture_text.specs.Strips.{strip_at}
use Rattle.picture_text.proofs.strips.all_strips.Given as goal

abbrev pub invariant-loop-i : goal.invariant-loop-i
invariant-loop-i l = l.strips.items ≡ map (strip_at l.end l.columns) (range_with_len 0 l.i)
