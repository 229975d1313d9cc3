use Rattle.std.proofs.Common.{◌≡◌, take, map, max}
use Rattle.std.specs.Prelude.{fold}
use Rattle.live_run.proofs.timetable.most_replicas.Given as goal

abbrev pub invariant-loop-frag : goal.invariant-loop-frag
invariant-loop-frag l = l.most ≡ fold max 0 (map (λ frag. frag.replicas) (take l.frag-index l.frags))
