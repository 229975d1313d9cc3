use Rattle.std.proofs.Common.{◌≡◌, ◌++◌, map, take}
use Rattle.dpc_model.specs.Actors.{nodes_from}
use Rattle.dpc_model.specs.declared.actors.Role.TheVariants.{Node as IsNode}
use Rattle.actor_lists.proofs.lists.push_nodes.Given as goal

abbrev pub invariant-loop-f : goal.invariant-loop-f
invariant-loop-f l = l.roles.items ≡ l.initial.roles.items ++ map (λ n. IsNode n.0 n.1) (nodes_from 0 (take l.f l.plan.frags))
