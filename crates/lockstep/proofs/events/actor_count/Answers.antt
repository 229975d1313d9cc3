use Rattle.std.proofs.Common.{arith}
use Rattle.std.proofs.lemmas.Grind.{common_steps}
use Rattle.lockstep.proofs.Counting.{roles-length}
use Rattle.lockstep.proofs.events.actor_count.Goals as goal

pub returns : goal.returns
returns c = grind (arith, common_steps, roles-length c.args.plan.now)
