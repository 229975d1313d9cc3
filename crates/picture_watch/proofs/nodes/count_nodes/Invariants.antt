use Rattle.std.proofs.Common.{◌≡◌, take}
use Rattle.std.specs.Prelude.{sum_by}
use Rattle.picture_watch.proofs.nodes.count_nodes.Given as goal

abbrev pub invariant-loop-frag : goal.invariant-loop-frag
invariant-loop-frag l = l.count ≡ sum_by (λ frag. frag.replicas) (take l.frag-index l.frags)
