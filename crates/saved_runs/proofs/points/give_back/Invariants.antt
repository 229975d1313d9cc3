use Rattle.std.proofs.Common.{◌≡◌, ◌≤◌, ◌+◌, vec_len, vec_capacity}
use Rattle.saved_runs.specs.Disks.{all_disks}
use Rattle.saved_runs.proofs.points.give_back.Given as goal

abbrev pub invariant-loop-node : goal.invariant-loop-node
invariant-loop-node g l = record {
  space : vec_len l.disks + vec_len l.nodes ≤ vec_capacity l.disks;
  disks : all_disks l.disks.items l.nodes.items ≡ all_disks l.initial.disks.items l.initial.nodes.items;
}

abbrev pub decreases-loop-node : goal.decreases-loop-node
decreases-loop-node g l = vec_len l.nodes
