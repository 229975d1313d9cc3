use Rattle.std.proofs.Common.{◌≡◌, take}
use Rattle.dpc_lists.proofs.exact.are_same.Given as goal

abbrev pub invariant-loop-i : goal.invariant-loop-i
invariant-loop-i g l = take l.i l.elements ≡ take l.i l.others
