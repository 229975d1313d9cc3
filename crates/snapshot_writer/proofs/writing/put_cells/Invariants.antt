use Rattle.std.proofs.Common.{◌≡◌, ◌++◌}
use Rattle.std.specs.Prelude.{flat_map}
use Rattle.ops_window.specs.Saving.{all_saved}
use Rattle.snapshot_form.specs.Bytes.{cell_bytes}
use Rattle.snapshot_writer.proofs.writing.put_cells.Given as goal

abbrev pub invariant-loop-key : goal.invariant-loop-key
invariant-loop-key l = l.buf.items ++ flat_map cell_bytes (all_saved l.key-iterator) ≡ l.fn.buf.items ++ flat_map cell_bytes (all_saved l.cells)
