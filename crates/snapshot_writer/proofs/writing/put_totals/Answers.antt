use Rattle.snapshot_form.specs.Bytes.{total_bytes}
use Rattle.snapshot_writer.proofs.Appended.{one-more}
use Rattle.snapshot_writer.proofs.writing.put_totals.Goals as goal

pub loop-total-preserved : goal.loop-total-preserved
loop-total-preserved c =
    one-more total_bytes c.args.totals.now c.loop-total.total-index _ c.args.buf.now.items c.loop-total.buf.items c.put_total.new.buf.items
    c.loop-total-test.true c.loop-total.invariant c.in_ok-put_total.ensures
