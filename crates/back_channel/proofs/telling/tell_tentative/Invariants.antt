use Rattle.std.proofs.Common.{◌≡◌, ◌-◌, ◌++◌, take, drop}
use Rattle.dpc_model.specs.Sessions.{tentative_items}
use Rattle.back_channel.proofs.telling.tell_tentative.Given as goal

-- the items so far
abbrev pub invariant-loop-i : goal.invariant-loop-i
invariant-loop-i l = l.items.items ≡ l.fn.items.items ++ tentative_items (take (l.i - l.from) (drop l.from l.tuples))
