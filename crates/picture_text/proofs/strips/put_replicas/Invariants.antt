use Rattle.std.proofs.Common.{◌≡◌, ◌++◌, map, take}
use Rattle.picture_text.specs.Signs.{state_sign}
use Rattle.picture_text.proofs.strips.put_replicas.Given as goal

abbrev pub invariant-loop-replica : goal.invariant-loop-replica
invariant-loop-replica l = l.strip.items ≡ l.fn.strip.items ++ map state_sign (take l.replica-index l.replicas)
