use Rattle.std.proofs.Common.{◌∙◌}
use Rattle.dpc_lists.proofs.Places.{position-place}
use Rattle.actor_lists.proofs.lists.place_of.Goals as goal

pub returns : goal.returns
returns c = c.position_of.ensures ∙ position-place c.args.actor c.args.actors.now
