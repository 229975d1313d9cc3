use Rattle.std.proofs.Common.{◌≡◌, ◌++◌, ◌∷◌, map, decimal}
use Rattle.dpc_lists.specs.Lists.{range_with_len}
use Rattle.picture_text.proofs.labels.put_replicas.Given as goal

abbrev pub invariant-loop-replica : goal.invariant-loop-replica
invariant-loop-replica l = l.labels.items ≡ l.fn.labels.items ++ map (λ r. l.frag.name ++ 46 ∷ decimal r) (range_with_len 0 l.replica)
