use Rattle.std.proofs.Common.{ℕ, List, ◌++◌}
use Rattle.world_parts.specs.Opening.{AreNewSlots, replicas_below}
use Rattle.world_parts.proofs.parts.push_replicas.Given as goal

abbrev pub invariant-loop-replica : goal.invariant-loop-replica
invariant-loop-replica l =
    (before : List (ℕ × ℕ)) → AreNewSlots l.plan before l.initial.nodes.items → AreNewSlots l.plan (before ++ replicas_below l.frag l.replica) l.nodes.items
