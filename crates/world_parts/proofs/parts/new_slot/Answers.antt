use Rattle.law_fit.proofs.Replicas.{replica-made}
use Rattle.world_parts.proofs.parts.new_slot.Goals as goal

pub new-requires : goal.new-requires
new-requires c = replica-made c.args.plan.now c.args.frag c.args.replica c.requires.plan.checked c.requires.plan.few c.requires.frag c.requires.replica
