use Rattle.std.proofs.Common.{◌≡◌, ◌<◌, ◌^◌, ◌++◌, length, sym, subst}
use Rattle.fragment_mill.specs.Views.{shown}
use Rattle.fragment_mill.specs.declared.views.KeptView.{KeptView}
use Rattle.snapshot_form.specs.Bytes.{part_bytes}
use Rattle.snapshot_writer.proofs.Appended.{cells-written}
use Rattle.snapshot_writer.proofs.writing.put_part.Goals as goal

pub returns-in_ok-put_cells-in-Aggregate : goal.returns-in_ok-put_cells-in-Aggregate
returns-in_ok-put_cells-in-Aggregate c =
    subst (λ (v : KeptView). c.put_cells.new.buf.items ≡ c.args.buf.now.items ++ part_bytes (shown v)) (sym c.in-Aggregate.is)
    (cells-written c.args.buf.now.items _ _ _ c.len.result c.in-Aggregate.cells.now
    (subst (λ (v : KeptView). length (part_bytes (shown v)) < 2 ^ 63) c.in-Aggregate.is c.requires)
    c.len.ensures c.in_ok-push-in-Aggregate.ensures.items c.in_ok-put_count-in-Aggregate.ensures c.in_ok-put_cells-in-Aggregate.ensures)
