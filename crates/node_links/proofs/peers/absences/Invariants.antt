use Rattle.std.proofs.Common.{◌≡◌, map, take, length}
use Rattle.dpc_model.specs.Replicas.{is_absent}
use Rattle.node_links.proofs.peers.absences.Given as goal

-- those so far
abbrev pub invariant-loop-r : goal.invariant-loop-r
invariant-loop-r l = record { long : length l.absences ≡ 4; so_far : take l.r l.absences ≡ map is_absent (take l.r l.watches) }
