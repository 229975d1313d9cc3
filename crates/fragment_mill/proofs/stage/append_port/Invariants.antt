use Rattle.std.proofs.Common.{◌≡◌, ◌++◌, map, take}
use Rattle.dpc_model.specs.Fragments.{tag, at_port}
use Rattle.fragment_mill.proofs.stage.append_port.Given as goal

abbrev pub invariant-loop-input : goal.invariant-loop-input
invariant-loop-input l = l.gathered.items ≡ l.fn.gathered.items ++ map (tag l.port) (at_port l.from (take l.input-index l.inputs))
