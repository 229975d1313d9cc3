use Rattle.std.proofs.Common.{◌≡◌}
use Rattle.sunion.proofs.Counting.{forgetting_to}
use Rattle.sunion.proofs.ports.drop_below.Given as goal

-- so many ports forgot
abbrev pub invariant-loop-port : goal.invariant-loop-port
invariant-loop-port l = l.ports ≡ forgetting_to l.time l.port-index l.fn.ports
