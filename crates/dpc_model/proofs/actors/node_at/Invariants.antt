use Rattle.std.proofs.Common.{◌≡◌, ◌+◌, length, slice_get, drop}
use Rattle.dpc_model.specs.Actors.{nodes_from}
use Rattle.dpc_model.proofs.actors.node_at.Given as goal

abbrev pub invariant-loop-f : goal.invariant-loop-f
invariant-loop-f l =
    (slice_get (nodes_from 0 l.frags) l.number ≡ slice_get (nodes_from l.f (drop l.f l.frags)) l.left)
    × (l.number + length (nodes_from l.f (drop l.f l.frags)) ≡ length (nodes_from 0 l.frags) + l.left)
