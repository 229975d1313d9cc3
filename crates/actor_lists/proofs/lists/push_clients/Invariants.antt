use Rattle.std.proofs.Common.{◌≡◌, ◌++◌, map}
use Rattle.dpc_lists.specs.Lists.{range_with_len}
use Rattle.dpc_model.specs.declared.actors.Role.TheVariants.{Client as IsClient}
use Rattle.actor_lists.proofs.lists.push_clients.Given as goal

abbrev pub invariant-loop-client : goal.invariant-loop-client
invariant-loop-client l = l.roles.items ≡ l.initial.roles.items ++ map IsClient (range_with_len 0 l.client)
