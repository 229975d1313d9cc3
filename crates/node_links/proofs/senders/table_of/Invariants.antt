use Rattle.node_links.specs.Linking.{senders_at}
use Rattle.node_links.proofs.Kept.{IsTableOf}
use Rattle.node_links.proofs.senders.table_of.Given as goal

-- the actors so far
abbrev pub invariant-loop-actor : goal.invariant-loop-actor
invariant-loop-actor l = IsTableOf (senders_at l.upstreams) l.actor l.table.items
