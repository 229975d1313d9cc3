use Rattle.std.proofs.Common.{◌∙◌, ap, Some, None}
use Rattle.world_parts.proofs.SlotPlaces.{state_told}
use Rattle.world_parts.proofs.parts.WorldParts.state.Goals as goal

pub returns-in_err-node : goal.returns-in_err-node
returns-in_err-node c x h = c.from_residual.ensures ∙ state_told c.args.roster.now c.args.self.now x c.args.actor None h (c.in_err-node.ensures x h)

pub returns : goal.returns
returns c x h = ap Some c.state.ensures ∙ state_told c.args.roster.now c.args.self.now x c.args.actor (Some c.in_ok-node.node.now) h (c.in_ok-node.ensures x h)
