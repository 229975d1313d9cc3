use Rattle.std.proofs.Common.{◌≡◌, ◌++◌, take}
use Rattle.dpc_model.specs.Sessions.{stable_items}
use Rattle.soutput.proofs.items.push_stable.Given as goal

abbrev pub invariant-loop-i : goal.invariant-loop-i
invariant-loop-i l = l.items.items ≡ l.fn.items.items ++ stable_items l.fn.first (take l.i l.fn.tuples)
