use Rattle.script_rules.proofs.Forms.{actors_are_in_order}
use Rattle.script_rules.proofs.actors_are_in_order.Goals as goal

pub returns : goal.returns
returns c = actors_are_in_order
