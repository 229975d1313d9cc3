use Rattle.std.proofs.Common.{◌≡◌, ◌++◌, map, take, zip, None}
use Rattle.node_core.specs.Stepping.{plain_mail, beat_with}
use Rattle.node_core.proofs.Announcing.{beat_to}
use Rattle.node_core.proofs.node.Node.beats.Given as goal

abbrev pub invariant-loop-peer : goal.invariant-loop-peer
invariant-loop-peer l = l.mails.items ≡ map (λ a. plain_mail a (beat_with l.self None)) (take l.peer-index l.peer-items)

abbrev pub invariant-loop-reader : goal.invariant-loop-reader
invariant-loop-reader l = l.mails.items ≡ l.initial.mails.items ++ map (beat_to l.self) (zip (take l.reader l.actor-items) l.self.path.output.subs)
