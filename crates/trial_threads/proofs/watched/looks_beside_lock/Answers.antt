-- What was read can be run.
use Rattle.live_commands.proofs.Ends.{can-run}
use Rattle.trial_threads.proofs.watched.looks_beside_lock.Goals as goal

pub looks_of-requires-clause-can : goal.looks_of-requires-clause-can
looks_of-requires-clause-can g c κs within = can-run c.as_bytes.result.now c.in-Ok.script c.in-Ok.ensures
