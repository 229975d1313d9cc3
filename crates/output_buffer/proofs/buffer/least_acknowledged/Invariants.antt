use Rattle.std.proofs.Common.{◌≡◌}
use Rattle.output_buffer.proofs.Leasts.{least_of}
use Rattle.output_buffer.proofs.buffer.least_acknowledged.Given as goal

-- the least of those so far
abbrev pub invariant-loop-ack : goal.invariant-loop-ack
invariant-loop-ack l = l.found ≡ least_of l.ack-index l.fn.acks
