use Rattle.std.proofs.Common.{◌≡◌, take}
use Rattle.dpc_model.specs.Operators.{mapped}
use Rattle.dpc_model.specs.Fragments.{at_port}
use Rattle.ops_stateless.proofs.map.mapped_all.Given as goal

abbrev pub invariant-loop-x : goal.invariant-loop-x
invariant-loop-x l = l.out.items ≡ mapped l.exprs (at_port 0 (take l.x-index l.inputs))
