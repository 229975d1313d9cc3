use Rattle.std.proofs.Common.{◌≡◌, ◌+◌, suc, length, refl, ap, sym, ◌∙◌, arith, List, ◌++◌, take}
use Rattle.std.proofs.lemmas.Option.{slice_get_read}
use Rattle.dpc_model.specs.declared.tuples.Item.{Item}
use Rattle.client_fold.specs.Folding.{all_taken}
use Rattle.pair_run.proofs.Seeing.{batch-more}
use Rattle.pair_run.proofs.pairing.taken_behind.Goals as goal

pub loop-batch-preserved : goal.loop-batch-preserved
loop-batch-preserved c =
    let batches = c.taken_behind-known.result.0.now in
    let n = c.loop-batch.batch-index in
    let next : n + 1 ≡ suc n = omega arith in
    let at = slice_get_read batches (length batches) n c.batch-item.result refl c.loop-batch-test.true c.batch-item.is in
    rw next
    ((c.in_ok-append.ensures {u = tt}).items ∙ ap (λ (is : List Item). is ++ c.in_ok-copies.copies.items) c.loop-batch.invariant
    ∙ ap (λ (is : List Item). all_taken (take n batches) ++ is) (c.in_ok-copies.ensures ∙ c.as_slice.ensures) ∙ sym (batch-more batches n c.batch-item.result at))
