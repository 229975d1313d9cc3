use Rattle.law_work.proofs.Inputs.{processed-true, bucket-true}
use Rattle.law_work.proofs.Worlds.{world-sound, run-sound}
use Rattle.law_work.proofs.what_a_node_holds_is_true.Goals as goal

pub returns : goal.returns
returns c = record { of_world = world-sound; of_run = run-sound; inputs = processed-true; bucket = bucket-true }
