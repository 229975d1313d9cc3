use Rattle.lockstep.specs.Faults.{fault_of}
use Rattle.lockstep.specs.Locking.{Exceeds}
use Rattle.world_model.specs.Schedules.{tell}
use Rattle.lockstep.proofs.Standing.{follows-tell, exceeds-fault, raised}
use Rattle.lockstep.proofs.telling.tell.Goals as goal

pub returns-in_err-apply-clause-long : goal.returns-in_err-apply-clause-long
returns-in_err-apply-clause-long g c =
    raised c.from_residual.result (Exceeds (λ x. tell x c.args.event) c.args.world.now) (fault_of c.in_err-apply.field-0.0) c.from_residual.ensures
    (exceeds-fault c.args.event c.args.world.now c.in_err-apply.field-0.0 c.in_err-apply.ensures.long)

pub returns-clause-ok : goal.returns-clause-ok
returns-clause-ok g c = follows-tell c.args.event c.args.world.now c.apply.new.self c.in_ok-apply.ensures.ok c.in_ok-apply.ensures.within
