use Rattle.std.proofs.Common.{◌≡◌, ◌++◌, map, take}
use Rattle.dpc_model.specs.Fragments.{tag}
use Rattle.ideal_run.proofs.inputs.append_port.Given as goal

abbrev pub invariant-loop-tuple : goal.invariant-loop-tuple
invariant-loop-tuple l = l.inputs.items ≡ l.fn.inputs.items ++ map (tag l.port) (take l.tuple-index l.tuples)
