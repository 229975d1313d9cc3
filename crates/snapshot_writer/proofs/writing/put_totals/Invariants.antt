use Rattle.std.proofs.Common.{◌≡◌, ◌++◌, drop}
use Rattle.std.specs.Prelude.{flat_map}
use Rattle.snapshot_form.specs.Bytes.{total_bytes}
use Rattle.snapshot_writer.proofs.writing.put_totals.Given as goal

abbrev pub invariant-loop-total : goal.invariant-loop-total
invariant-loop-total l = l.buf.items ++ flat_map total_bytes (drop l.total-index l.totals) ≡ l.fn.buf.items ++ flat_map total_bytes l.totals
