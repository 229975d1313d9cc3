use Rattle.std.proofs.Common.{◌≡◌, ◌++◌, map}
use Rattle.dpc_lists.specs.Lists.{range_with_len}
use Rattle.dpc_model.specs.declared.actors.Role.TheVariants.{Source as IsSource}
use Rattle.actor_lists.proofs.lists.push_sources.Given as goal

abbrev pub invariant-loop-source : goal.invariant-loop-source
invariant-loop-source l = l.roles.items ≡ l.initial.roles.items ++ map IsSource (range_with_len 0 l.source)
