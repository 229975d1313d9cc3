use Rattle.law_survivors.proofs.Settling.{settles-with-crashes}
use Rattle.law_survivors.proofs.a_script_that_crashes_one_replica_of_each_settles.Goals as goal

pub returns : goal.returns
returns c = settles-with-crashes
