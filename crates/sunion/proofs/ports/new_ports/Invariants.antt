use Rattle.std.proofs.Common.{◌≡◌, replicate}
use Rattle.sunion.specs.Ports.{at_opening}
use Rattle.sunion.proofs.ports.new_ports.Given as goal

-- so many so far
abbrev pub invariant-loop : goal.invariant-loop
invariant-loop l = l.ports.items ≡ replicate l.counter (at_opening l.inc)
