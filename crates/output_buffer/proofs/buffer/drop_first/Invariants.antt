use Rattle.std.proofs.Common.{◌≡◌, drop}
use Rattle.output_buffer.proofs.buffer.drop_first.Given as goal

-- so many went
abbrev pub invariant-loop : goal.invariant-loop
invariant-loop l = l.tuples.items ≡ drop l.counter l.fn.tuples.items
