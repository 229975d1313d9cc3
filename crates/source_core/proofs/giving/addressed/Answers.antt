use Rattle.std.proofs.Common.{◌≡◌, ◌∙◌, ◌++◌, ◌∷◌, List, ℕ, ap, sym, refl}
use Rattle.dpc_model.specs.declared.messages.Message.{Message}
use Rattle.dpc_model.specs.declared.messages.Out.{Out}
use Rattle.node_model.specs.Mails.{mails, to_readers}
use Rattle.source_core.proofs.Sends.{addressed-more}
use Rattle.source_core.proofs.giving.addressed.Goals as goal

pub loop-reader-preserved : goal.loop-reader-preserved
loop-reader-preserved c =
    let readers = c.args.readers.now in
    let rest = c.next.new.self.rest.items in
    let m : ℕ × Message = (c.in-Some.reader, c.in-Some.message) in
    let o : Out = record { to = c.actor_at-to.result; message = c.in-Some.message } in
    let left : c.loop-reader.reader-iterator.rest.items ≡ m ∷ rest = (c.in-Some.ensures {u = tt}).steps.0 in
    ap (λ (outs : List Out). mails outs ++ to_readers readers rest) (c.in_ok-push.ensures {u = tt}).items
    ∙ addressed-more readers c.loop-reader.outs.items o m rest c.actor_at-to.ensures refl
    ∙ ap (λ (ms : List (ℕ × Message)). mails c.loop-reader.outs.items ++ to_readers readers ms) (sym left)
    ∙ c.loop-reader.invariant
