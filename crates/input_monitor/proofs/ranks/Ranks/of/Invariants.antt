use Rattle.std.proofs.Common.{◌≡◌, map, take, length}
use Rattle.dpc_model.specs.Replicas.{rank_of}
use Rattle.input_monitor.proofs.ranks.Ranks.of.Given as goal

-- the ranks so far
abbrev pub invariant-loop-r : goal.invariant-loop-r
invariant-loop-r l = record { long : length l.ranks ≡ 4; so_far : take l.r l.ranks ≡ map rank_of (take l.r l.watches) }
