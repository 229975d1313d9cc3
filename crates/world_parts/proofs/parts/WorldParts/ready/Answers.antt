use Rattle.world_parts.proofs.SlotPlaces.{ready_told, none_ready}
use Rattle.world_parts.proofs.parts.WorldParts.ready.Goals as goal

pub returns-in-Some : goal.returns-in-Some
returns-in-Some c x h = ready_told c.args.roster.now c.args.self.now x c.args.actor c.in-Some.node.now c.ready.result h c.ready.ensures (c.in-Some.ensures x h)

pub returns-in-None : goal.returns-in-None
returns-in-None c x h = none_ready c.args.roster.now c.args.self.now x c.args.actor h (c.in-None.ensures x h)
