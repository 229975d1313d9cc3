use Rattle.std.proofs.Common.{ℤ, List, length, ap, arith}
use Rattle.snapshot_writer.proofs.Sizes.{cells-step}
use Rattle.snapshot_writer.proofs.counting.count_cells.Goals as goal

pub loop-totals-preserved : goal.loop-totals-preserved
loop-totals-preserved c =
    let more = cells-step (c.in-Some.field-0-0, c.in-Some.totals.now) c.next.new.self c.loop-totals.totals-iterator c.in-Some.ensures.steps in
    let width = ap (λ (zs : List ℤ). length zs) c.as_slice.ensures in
    let sum = c.saturating_add-count.ensures in
    let before = c.loop-totals.invariant.sum in
    record { sum = omega (arith, more, width, sum, before); fits = omega (arith, sum) }
