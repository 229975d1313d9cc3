use Rattle.std.proofs.Common.{◌≡◌, true, take}
use Rattle.dpc_lists.specs.Lists.{list_all}
use Rattle.law_saves.specs.Typed.{has_values}
use Rattle.snapshot_types.proofs.tuples_fit.Given as goal

abbrev pub invariant-loop-tuple : goal.invariant-loop-tuple
invariant-loop-tuple l = list_all has_values (take l.tuple-index l.fn.tuples) ≡ true
