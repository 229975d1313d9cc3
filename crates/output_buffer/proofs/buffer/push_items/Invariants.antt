use Rattle.std.proofs.Common.{◌≡◌, ◌-◌, ◌++◌, take, drop}
use Rattle.dpc_model.specs.Sessions.{stable_items}
use Rattle.output_buffer.proofs.buffer.push_items.Given as goal

-- the items so far
abbrev pub invariant-loop-i : goal.invariant-loop-i
invariant-loop-i l = l.items.items ≡ l.fn.items.items ++ stable_items l.number (take (l.i - l.place) (drop l.place l.tuples.items))
