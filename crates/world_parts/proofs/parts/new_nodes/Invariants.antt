use Rattle.std.proofs.Common.{take}
use Rattle.dpc_model.specs.Actors.{nodes_from}
use Rattle.world_parts.specs.Opening.{AreNewSlots}
use Rattle.world_parts.proofs.parts.new_nodes.Given as goal

abbrev pub invariant-loop-frag : goal.invariant-loop-frag
invariant-loop-frag l = AreNewSlots l.plan (nodes_from 0 (take l.frag l.plan.frags)) l.nodes.items
