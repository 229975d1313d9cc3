use Rattle.std.proofs.Common.{◌≡◌, map, take}
use Rattle.dpc_model.specs.Fragments.{read_wire, serial}
use Rattle.trial_ideal.proofs.read.Given as goal

abbrev pub invariant-loop-wire : goal.invariant-loop-wire
invariant-loop-wire l = l.inputs.items ≡ map (read_wire (serial l.ports) l.outputs) (take l.wire-index l.wires)
