use Rattle.dpc_lists.specs.Lists.{range_with_len}
use Rattle.world_parts.specs.Opening.{AreNewClients}
use Rattle.world_parts.proofs.parts.new_clients.Given as goal

abbrev pub invariant-loop-c : goal.invariant-loop-c
invariant-loop-c l = AreNewClients l.plan (range_with_len 0 l.c) l.clients.items
