use Rattle.std.proofs.Common.{◌≡◌, ◌+◌, suc, length, drop, min, refl, ap, ◌∙◌, arith}
use Rattle.std.proofs.lemmas.Option.{slice_get_read}
use Rattle.picture_watch.proofs.Tallying.{batch-counted}
use Rattle.picture_watch.proofs.tallies.with_batches.Goals as goal

pub loop-batch-preserved : goal.loop-batch-preserved
loop-batch-preserved c =
    let bs = c.args.batches.now in
    let i = c.loop-batch.batch-index in
    let k = c.min-known.result in
    let at = slice_get_read bs (length bs) i c.batch-item.result refl c.loop-batch-test.true c.batch-item.is in
    let next : i + 1 ≡ suc i = omega arith in
    batch-counted c.loop-batch.tally c.in_ok-tally.tally c.loop-batch.skip k i (i + 1) bs c.batch-item.result c.split_at.result.1.now at
    (c.min-known.ensures ∙ ap (λ xs. min c.loop-batch.skip (length xs)) c.as_slice-items.ensures) (c.split_at.ensures.back ∙ ap (λ xs. drop k xs) c.as_slice-items.ensures)
    (c.in_ok-tally.ensures {u = tt}) next
    ∙ c.loop-batch.invariant
