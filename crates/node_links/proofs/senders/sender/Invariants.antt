use Rattle.std.proofs.Common.{◌≡◌}
use Rattle.node_links.specs.Linking.{sender_among}
use Rattle.node_links.proofs.Looping.{senders_left}
use Rattle.node_links.proofs.senders.sender.Given as goal

-- none of the first ports has it
abbrev pub invariant-loop-port : goal.invariant-loop-port
invariant-loop-port l = sender_among 0 (senders_left 0 l.upstreams) l.actor ≡ sender_among l.port (senders_left l.port l.upstreams) l.actor
