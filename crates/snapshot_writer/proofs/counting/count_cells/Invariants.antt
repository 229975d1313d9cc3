use Rattle.std.proofs.Common.{◌≡◌, ◌<◌, ◌+◌, ◌^◌, length}
use Rattle.std.specs.Prelude.{flat_map}
use Rattle.ops_window.specs.Saving.{all_saved}
use Rattle.snapshot_form.specs.Bytes.{cell_bytes}
use Rattle.snapshot_writer.specs.Counts.{capped}
use Rattle.snapshot_writer.proofs.counting.count_cells.Given as goal

abbrev pub invariant-loop-totals : goal.invariant-loop-totals
invariant-loop-totals l = record {
  sum : capped (l.count + length (flat_map cell_bytes (all_saved l.totals-iterator))) ≡ capped (length (flat_map cell_bytes (all_saved l.cells)));
  fits : l.count < 2 ^ 64;
}
