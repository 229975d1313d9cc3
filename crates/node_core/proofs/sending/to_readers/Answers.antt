use Rattle.std.proofs.Common.{◌≡◌, ◌∙◌, ◌++◌, ◌∷◌, List, ℕ, map, ap, sym}
use Rattle.dpc_lists.specs.Lists.{nth}
use Rattle.dpc_model.specs.declared.messages.Message.{Message}
use Rattle.node_core.specs.declared.packets.Mail.{Mail}
use Rattle.node_core.specs.Stepping.{plain_mail}
use Rattle.node_core.proofs.Mailing.{readers-more}
use Rattle.node_core.proofs.sending.to_readers.Goals as goal

pub loop-reader-preserved : goal.loop-reader-preserved
loop-reader-preserved c =
    let readers = c.args.readers.now in
    let f = λ (m : ℕ × Message). plain_mail (nth 0 readers m.0) m.1 in
    let rest = c.next.new.self.rest.items in
    let m : ℕ × Message = (c.in-Some.reader, c.in-Some.message) in
    let left : c.loop-reader.reader-iterator.rest.items ≡ m ∷ rest = (c.in-Some.ensures {u = tt}).steps.0 in
    ap (λ (ms : List Mail). ms ++ map f rest) (c.in_ok-push.ensures {u = tt}).items
    ∙ readers-more readers c.loop-reader.mails.items c.mail.result m rest (c.mail.ensures ∙ ap (λ (a : ℕ). plain_mail a c.in-Some.message) c.actor_at.ensures)
    ∙ ap (λ (ms : List (ℕ × Message)). c.loop-reader.mails.items ++ map f ms) (sym left)
    ∙ c.loop-reader.invariant
