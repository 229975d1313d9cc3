use Rattle.std.proofs.Common.{rules}
use Rattle.world_parts.proofs.NewParts.{sender_some, senders_few, clients_pushed}
use Rattle.world_parts.proofs.parts.new_clients.Goals as goal

pub new-requires-clause-some : goal.new-requires-clause-some
new-requires-clause-some c = sender_some c.args.plan.now c.loop-c.c c.requires (search rules)

pub new-requires-clause-most : goal.new-requires-clause-most
new-requires-clause-most c = senders_few c.args.plan.now c.loop-c.c c.requires (search rules)

pub loop-c-preserved : goal.loop-c-preserved
loop-c-preserved c = rw c.in_ok-push.ensures.items (clients_pushed c.args.plan.now c.loop-c.c c.loop-c.clients.items c.in_ok-new.field-0 c.loop-c.invariant c.in_ok-new.ensures)
