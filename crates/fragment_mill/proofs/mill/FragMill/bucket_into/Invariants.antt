use Rattle.fragment_mill.proofs.mill.FragMill.bucket_into.Given as goal
use Rattle.fragment_mill.proofs.Running.{Running}
use Rattle.std.proofs.Common.{◌≡◌, ◌+◌, true, length}

abbrev pub invariant-loop-i : goal.invariant-loop-i
invariant-loop-i g l = record {
  width : l.self-inside.width ≡ l.fn.self.width;
  next : l.self-inside.next ≡ l.fn.self.next;
  spent : l.self-inside.spent ≡ true;
  end : l.last + 1 ≡ length l.fn.self.stages;
  running : Running l.fn.self l.inputs l.k l.i l.self-inside.stages.items l.outputs.items;
}
