use Rattle.std.proofs.Common.{◌≡◌, map, take}
use Rattle.sunion.specs.Ports.{behind_snapshot}
use Rattle.sunion.proofs.ports.restarted_ports.Given as goal

abbrev pub invariant-loop-count : goal.invariant-loop-count
invariant-loop-count l = (l.last.inc ≡ l.inc) × (l.last.number ≡ 0) × (l.ports.items ≡ map (behind_snapshot l.inc l.time) (take l.count-index l.counts))
