use Rattle.std.proofs.Common.{◌≡◌, true, take}
use Rattle.dpc_lists.specs.Lists.{list_all}
use Rattle.law_saves.specs.Typed.{has_values}
use Rattle.snapshot_types.proofs.side_fits.Given as goal

abbrev pub invariant-loop-i : goal.invariant-loop-i
invariant-loop-i l = list_all has_values (take l.i l.fn.tuples.items) ≡ true
