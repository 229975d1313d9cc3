use Rattle.std.proofs.Common.{◌≡◌, map, filter, nat_lt, take}
use Rattle.dpc_model.specs.declared.tuples.Tagged.{Tagged}
use Rattle.ops_stateless.proofs.union.passing.Given as goal

abbrev pub invariant-loop-x : goal.invariant-loop-x
invariant-loop-x l = l.out.items ≡ map (λ (x : Tagged). x.tuple) (filter (λ (x : Tagged). nat_lt x.port l.ports) (take l.x-index l.inputs))
