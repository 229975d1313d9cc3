use Rattle.std.proofs.Common.{◌≡◌, ◌+◌, length, All}
use Rattle.saves_commands.specs.Disks.{HasRoom}
use Rattle.saves_commands.proofs.answering.push_disks.Given as goal

abbrev pub invariant-loop : goal.invariant-loop
invariant-loop l = record {
  many : length l.disks.items ≡ length l.initial.disks.items + l.counter;
  size : All HasRoom l.initial.disks.items → All HasRoom l.disks.items;
}
