use Rattle.law_work.proofs.Works.{fits-by-numbers, work-by-numbers}
use Rattle.law_work.proofs.Worlds.{world-fits-by-numbers, run-fits-by-numbers}
use Rattle.law_work.proofs.true_work_fits_by_numbers.Goals as goal

pub returns : goal.returns
returns c = record { of_node = fits-by-numbers; work = work-by-numbers; of_world = world-fits-by-numbers; of_run = run-fits-by-numbers }
