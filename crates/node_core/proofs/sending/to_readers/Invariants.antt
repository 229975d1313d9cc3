use Rattle.std.proofs.Common.{◌≡◌, ℕ, ◌++◌, map}
use Rattle.dpc_lists.specs.Lists.{nth}
use Rattle.dpc_model.specs.declared.messages.Message.{Message}
use Rattle.node_core.specs.Stepping.{plain_mail}
use Rattle.node_core.proofs.sending.to_readers.Given as goal

abbrev pub invariant-loop-reader : goal.invariant-loop-reader
invariant-loop-reader l =
    l.mails.items ++ map (λ (m : ℕ × Message). plain_mail (nth 0 l.readers m.0) m.1) l.reader-iterator.rest.items ≡ map (λ (m : ℕ × Message). plain_mail (nth 0 l.readers m.0) m.1) l.fn.sends.items
