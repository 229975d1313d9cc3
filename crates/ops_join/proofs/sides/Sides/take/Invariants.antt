use Rattle.std.proofs.Common.{◌≡◌, take}
use Rattle.dpc_model.specs.Fragments.{at_port}
use Rattle.ops_join.specs.Sides.{port_of, taken}
use Rattle.ops_join.proofs.sides.Sides.take.Given as goal

abbrev pub invariant-loop-x : goal.invariant-loop-x
invariant-loop-x l = l.self ≡ taken l.end (at_port (port_of l.end) (take l.x-index l.inputs)) l.initial.self
