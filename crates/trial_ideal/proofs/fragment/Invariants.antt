use Rattle.std.proofs.Common.{◌≡◌, [], take}
use Rattle.dpc_model.specs.Fragments.{outputs_after, serial}
use Rattle.trial_ideal.proofs.fragment.Given as goal

abbrev pub invariant-loop-op : goal.invariant-loop-op
invariant-loop-op l = l.outputs.items ≡ outputs_after [] (take l.op-index l.ops) (serial l.ports) l.b
