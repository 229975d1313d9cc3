use Rattle.law_work.proofs.Works.{work-true}
use Rattle.law_work.proofs.Worlds.{world-work-true, run-work-true}
use Rattle.law_work.proofs.work_is_true.Goals as goal

pub returns : goal.returns
returns c = record { of_node = work-true; of_world = world-work-true; of_run = run-work-true }
