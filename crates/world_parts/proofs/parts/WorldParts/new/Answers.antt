use Rattle.std.proofs.Common.{refl}
use Rattle.world_parts.proofs.NewParts.{new_stands}
use Rattle.world_parts.proofs.parts.WorldParts.new.Goals as goal

pub returns : goal.returns
returns c = new_stands c.args.plan.now _ c.requires c.in_ok-new_sources.ensures c.in_ok-new_nodes.ensures c.in_ok-new_clients.ensures c.new.ensures.items c.new-2.ensures.items refl
