use Rattle.std.proofs.Common.{◌≡◌, ◌++◌, map, take}
use Rattle.dpc_model.specs.Fragments.{tag}
use Rattle.fragment_mill.proofs.stage.append_tuples.Given as goal

abbrev pub invariant-loop-tuple : goal.invariant-loop-tuple
invariant-loop-tuple l = l.gathered.items ≡ l.fn.gathered.items ++ map (tag l.port) (take l.tuple-index l.tuples)
