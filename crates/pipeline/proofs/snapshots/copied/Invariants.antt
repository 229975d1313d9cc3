use Rattle.std.proofs.Common.{◌≡◌, take}
use Rattle.pipeline.proofs.snapshots.copied.Given as goal

-- so many are copied
abbrev pub invariant-loop-i : goal.invariant-loop-i
invariant-loop-i l = l.copies.items ≡ take l.i l.tuples.items
