use Rattle.std.proofs.Common.{◌≡◌, ◌++◌, map}
use Rattle.dpc_lists.specs.Lists.{range_with_len}
use Rattle.picture_text.specs.Strips.{source_at}
use Rattle.picture_text.proofs.strips.put_sources.Given as goal

abbrev pub invariant-loop-i : goal.invariant-loop-i
invariant-loop-i l = l.strip.items ≡ l.fn.strip.items ++ map (source_at l.end l.before l.now) (range_with_len 0 l.i)
