use Rattle.std.proofs.Common.{◌≡◌, map, take}
use Rattle.dpc_model.specs.Fragments.{tagged_from, read_wire}
use Rattle.fragment_mill.proofs.stage.gather.Given as goal

abbrev pub invariant-loop-port : goal.invariant-loop-port
invariant-loop-port l = l.gathered.items ≡ tagged_from 0 (map (read_wire l.inputs l.outputs) (take l.port l.reads))
