use Rattle.world_core.specs.Runs.{world_of}
use Rattle.live_run.proofs.Steps.{delivered_noted}
use Rattle.live_run.proofs.course.Course.happen.Goals as goal

pub returns-in-Deliver : goal.returns-in-Deliver
returns-in-Deliver c = λ script p of same may s.
    delivered_noted script p c.args.e c.in-Deliver.k (world_of c.args.world.now) c.args.self.now c.deliver.new.self c.in-Deliver.is same may c.deliver.ensures s
