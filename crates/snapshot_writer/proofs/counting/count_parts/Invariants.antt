use Rattle.std.proofs.Common.{◌≡◌, length, take}
use Rattle.fragment_mill.specs.States.{parts_of}
use Rattle.snapshot_form.specs.Bytes.{parts_bytes}
use Rattle.snapshot_writer.specs.Counts.{capped}
use Rattle.snapshot_writer.proofs.counting.count_parts.Given as goal

abbrev pub invariant-loop-i : goal.invariant-loop-i
invariant-loop-i l = l.count ≡ capped (length (parts_bytes (take l.i (parts_of l.mill).operators)))
