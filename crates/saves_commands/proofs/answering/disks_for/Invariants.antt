use Rattle.std.proofs.Common.{◌≡◌, ◌+◌, length, drop, All}
use Rattle.dpc_model.specs.Actors.{nodes_from, nodes_of}
use Rattle.saves_commands.specs.Disks.{HasRoom}
use Rattle.saves_commands.proofs.answering.disks_for.Given as goal

-- those of the other fragments are still to come
abbrev pub invariant-loop-frag : goal.invariant-loop-frag
invariant-loop-frag l = record {
  many : length l.disks.items + length (nodes_from l.frag-index (drop l.frag-index l.plan.frags)) ≡ length (nodes_of l.plan);
  size : All HasRoom l.disks.items;
}
