use Rattle.std.proofs.Common.{◌≡◌, ◌-◌}
use Rattle.std.specs.Prelude.{flat_map}
use Rattle.dpc_lists.specs.Lists.{range_with_len}
use Rattle.picture_text.specs.Strips.{shown_at, alike_before}
use Rattle.picture_text.proofs.strips.folded.Given as goal

-- the strips of the first phases, and how many look like the last of these
abbrev pub invariant-loop-i : goal.invariant-loop-i
invariant-loop-i l = (l.strips.items ≡ flat_map (shown_at l.all) (range_with_len 0 l.i)) × (l.alike ≡ alike_before l.all (l.i - 1))
