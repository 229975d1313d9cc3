use Rattle.node_links.specs.Linking.{senders_at}
use Rattle.node_links.proofs.Kept.{table-more, no-table}
use Rattle.node_links.proofs.senders.table_of.Goals as goal

pub loop-actor-init : goal.loop-actor-init
loop-actor-init c = no-table (senders_at c.args.upstreams.now) c.in_ok-table.table.items c.in_ok-table.ensures.items

pub loop-actor-preserved : goal.loop-actor-preserved
loop-actor-preserved c =
    table-more (senders_at c.args.upstreams.now) c.loop-actor.actor c.loop-actor.table.items c.push.new.self.items c.in_ok-entry.field-0 c.loop-actor.invariant c.in_ok-entry.ensures c.in_ok-push.ensures.items

pub returns : goal.returns
returns c = c.loop-actor.invariant.0
