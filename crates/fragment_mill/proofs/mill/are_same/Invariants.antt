use Rattle.std.proofs.Common.{◌≡◌, take}
use Rattle.fragment_mill.proofs.mill.are_same.Given as goal

abbrev pub invariant-loop-i : goal.invariant-loop-i
invariant-loop-i l = take l.i l.stages ≡ take l.i l.others
