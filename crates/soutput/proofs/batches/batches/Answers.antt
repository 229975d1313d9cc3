use Rattle.std.proofs.Common.{◌≡◌, ◌∙◌, ◌++◌, ◌+◌, List, sym, ap, take, arith, ℕ, slice_index_or}
use Rattle.dpc_model.specs.Sessions.{no_session, tally_of, batches_from}
use Rattle.dpc_model.specs.declared.tuples.Item.{Item}
use Rattle.dpc_model.specs.declared.messages.Message.{Message}
use Rattle.soutput.specs.Giving.{batch_to}
use Rattle.soutput.proofs.BatchLists.{batches-taken}
use Rattle.soutput.proofs.batches.batches.Goals as goal

pub loop-reader-preserved : goal.loop-reader-preserved
loop-reader-preserved c =
    let i = c.loop-reader.reader in
    let sessions = c.args.sessions.now in
    let last = tally_of (slice_index_or sessions i no_session) in
    let none : 0 + i ≡ i = omega arith in
    let more = rw none at (batches-taken 0 i c.args.items.items sessions no_session c.loop-reader-test.true) in
    c.in_ok-push_batch.ensures
    ∙ ap (λ (ms : List (ℕ × Message)). ms ++ batch_to i c.in_ok-items.items last) c.loop-reader.invariant
    ∙ ap (λ (items : List Item). batches_from 0 c.args.items.items (take i sessions) ++ batch_to i items last) c.in_ok-items.ensures
    ∙ sym more
