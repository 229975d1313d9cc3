use Rattle.std.proofs.Common.{◌≡◌, ◌<◌, ◌+◌, ◌^◌, length, drop}
use Rattle.snapshot_form.specs.Bytes.{tuples_bytes}
use Rattle.snapshot_writer.specs.Counts.{capped}
use Rattle.snapshot_writer.proofs.counting.count_tuples.Given as goal

abbrev pub invariant-loop-tuple : goal.invariant-loop-tuple
invariant-loop-tuple l = record {
  sum : capped (l.count + length (tuples_bytes (drop l.tuple-index l.tuples))) ≡ capped (length (tuples_bytes l.tuples));
  fits : l.count < 2 ^ 64;
}
