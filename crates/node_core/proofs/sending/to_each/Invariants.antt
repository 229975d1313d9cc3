use Rattle.std.proofs.Common.{◌≡◌, map, take}
use Rattle.node_core.specs.Stepping.{plain_mail, asked_in}
use Rattle.node_core.proofs.sending.to_each.Given as goal

abbrev pub invariant-loop-actor : goal.invariant-loop-actor
invariant-loop-actor l = l.mails.items ≡ map (λ a. plain_mail a (asked_in l.request)) (take l.actor-index l.actors)
