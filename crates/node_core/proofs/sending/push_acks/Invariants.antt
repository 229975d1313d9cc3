use Rattle.std.proofs.Common.{◌≡◌, ◌++◌, map, take}
use Rattle.dpc_model.specs.declared.messages.Message.TheVariants as message
use Rattle.node_core.specs.Stepping.{plain_mail}
use Rattle.node_core.proofs.sending.push_acks.Given as goal

abbrev pub invariant-loop-actor : goal.invariant-loop-actor
invariant-loop-actor l =
    l.mails.items ≡ l.initial.mails.items ++ map (λ a. plain_mail a (message.Ack l.inc l.count)) (take l.actor-index l.actors)
