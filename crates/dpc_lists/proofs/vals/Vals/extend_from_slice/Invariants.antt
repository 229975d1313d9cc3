use Rattle.std.proofs.Common.{◌≡◌, ◌++◌, take}
use Rattle.dpc_lists.proofs.vals.Vals.extend_from_slice.Given as goal

abbrev pub invariant-loop-value : goal.invariant-loop-value
invariant-loop-value l = l.self ≡ l.fn.self ++ take l.value-index l.values
