use Rattle.std.proofs.Common.{◌≡◌, ◌++◌, drop}
use Rattle.snapshot_form.specs.Bytes.{tuples_bytes}
use Rattle.snapshot_writer.proofs.writing.put_tuples.Given as goal

abbrev pub invariant-loop-tuple : goal.invariant-loop-tuple
invariant-loop-tuple l = l.buf.items ++ tuples_bytes (drop l.tuple-index l.tuples) ≡ l.fn.buf.items ++ tuples_bytes l.tuples
