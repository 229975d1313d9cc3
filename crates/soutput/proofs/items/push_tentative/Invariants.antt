use Rattle.std.proofs.Common.{◌≡◌, ◌++◌, take}
use Rattle.dpc_model.specs.Sessions.{tentative_items}
use Rattle.soutput.proofs.items.push_tentative.Given as goal

abbrev pub invariant-loop-tuple : goal.invariant-loop-tuple
invariant-loop-tuple l = l.items.items ≡ l.fn.items.items ++ tentative_items (take l.tuple-index l.fn.tuples)
