use Rattle.std.proofs.Common.{◌≡◌, take}
use Rattle.sunion.specs.Ports.{least_over, reached_at}
use Rattle.sunion.proofs.spans.count_reached.Given as goal

-- the least so far
abbrev pub invariant-loop-port : goal.invariant-loop-port
invariant-loop-port l = l.least ≡ least_over (reached_at l.width) l.most (take l.port-index l.ports)
