use Rattle.std.proofs.Common.{◌≡◌, ◌++◌, map, take}
use Rattle.dpc_model.specs.Operators.{between}
use Rattle.dpc_model.specs.Fragments.{tag}
use Rattle.sunion.proofs.buckets.push_tentative.Given as goal

-- the tuples so far
abbrev pub invariant-loop-tuple : goal.invariant-loop-tuple
invariant-loop-tuple l = l.tagged.items ≡ l.fn.tagged.items ++ map (tag l.port) (between l.from l.upto (take l.tuple-index l.tuples))
