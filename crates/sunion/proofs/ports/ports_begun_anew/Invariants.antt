use Rattle.std.proofs.Common.{◌≡◌, take}
use Rattle.sunion.specs.Ports.{begun_anew}
use Rattle.sunion.proofs.ports.ports_begun_anew.Given as goal

-- so many ports began anew
abbrev pub invariant-loop-port : goal.invariant-loop-port
invariant-loop-port l = l.others.items ≡ begun_anew l.time (take l.port l.counts) (take l.port l.ports)
