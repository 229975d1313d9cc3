use Rattle.node_core.proofs.Announcing.{HasAcked}
use Rattle.node_core.proofs.node.Node.acks.Given as goal

abbrev pub invariant-loop-port : goal.invariant-loop-port
invariant-loop-port l = HasAcked l.port l.self l.mails.items
