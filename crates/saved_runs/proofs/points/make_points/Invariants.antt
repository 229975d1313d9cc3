use Rattle.std.proofs.Common.{◌≡◌, ◌≤◌, ◌+◌, length, vec_len, vec_capacity, All}
use Rattle.std.specs.List.{AllZip}
use Rattle.phase_saves.specs.Nodes.{HasBegun}
use Rattle.saved_runs.specs.Disks.{IsBack, all_disks}
use Rattle.saved_runs.specs.Nodes.{IsNodeOf, IsNumbered}
use Rattle.saved_runs.proofs.points.make_points.Given as goal

-- the first disks are here, and the others are those of nodes
abbrev pub invariant-loop-disk : goal.invariant-loop-disk
invariant-loop-disk g l = record {
  back : AllZip (IsBack g.D.Disk) l.fn.disks.items (all_disks l.disks.items l.nodes.items);
  fits : All (λ d. l.room + l.room ≤ g.D.Disk.extent d) l.disks.items;
  begun : All g.D.Disk.is_honest l.fn.disks.items → All g.D.Disk.is_honest l.disks.items × All HasBegun l.nodes.items;
  places : All (IsNodeOf l.plan l.room) l.nodes.items;
  numbered : IsNumbered (length l.plan.sources + length l.fn.disks.items) l.nodes.items;
  many : length l.disks.items + length l.nodes.items ≡ length l.fn.disks.items;
  actor : l.actor ≡ length l.plan.sources + length l.disks.items;
  taken : vec_len l.disks + vec_len l.nodes ≤ vec_capacity l.disks;
  space : vec_len l.disks + vec_len l.nodes ≤ vec_capacity l.nodes;
}

abbrev pub decreases-loop-disk : goal.decreases-loop-disk
decreases-loop-disk g l = vec_len l.disks
