use Rattle.std.proofs.Common.{◌≡◌, drop}
use Rattle.snapshot_form.specs.Reading.{operators_at}
use Rattle.snapshot_reader.proofs.Front.{with_before}
use Rattle.snapshot_reader.proofs.operators.read_operators.Given as goal

abbrev pub invariant-loop-op : goal.invariant-loop-op
invariant-loop-op l = operators_at l.ops l.fn.bytes ≡ with_before l.parts.items (operators_at (drop l.op-index l.ops) l.bytes)
