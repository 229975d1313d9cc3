use Rattle.std.proofs.Common.{◌≡◌, drop}
use Rattle.ops_join.specs.Saving.{can_wait_from}
use Rattle.ops_join.proofs.saved.can_all_wait.Given as goal

abbrev pub invariant-loop-tuple : goal.invariant-loop-tuple
invariant-loop-tuple l = can_wait_from l.within l.begin l.from (drop l.tuple-index l.tuples) ≡ can_wait_from l.within l.begin 0 l.tuples
