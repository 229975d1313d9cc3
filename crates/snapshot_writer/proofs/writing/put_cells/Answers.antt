use Rattle.snapshot_writer.proofs.Appended.{one-cell-more}
use Rattle.snapshot_writer.proofs.writing.put_cells.Goals as goal

pub loop-key-preserved : goal.loop-key-preserved
loop-key-preserved c =
    one-cell-more _ c.loop-key.buf.items c.put_cell.new.buf.items (c.in-Some.key, c.in-Some.totals.now) c.next.new.self c.loop-key.key-iterator
    c.as_slice.result.now c.in-Some.ensures.steps c.as_slice.ensures c.loop-key.invariant c.in_ok-put_cell.ensures
