-- What was read can be run.
use Rattle.live_commands.proofs.Ends.{can-run}
use Rattle.trial_threads.proofs.pooled.taken_through.Goals as goal

pub taken_in-requires-clause-can : goal.taken_in-requires-clause-can
taken_in-requires-clause-can g c κs within = can-run c.as_bytes.result.now c.in-Ok.script c.in-Ok.ensures
