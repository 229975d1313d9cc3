-- What was read can be run.
use Rattle.live_commands.proofs.Ends.{can-run}
use Rattle.trial_threads.proofs.stale.crashed_meanwhile.Goals as goal

pub crashed_in-requires-clause-can : goal.crashed_in-requires-clause-can
crashed_in-requires-clause-can c = can-run c.as_bytes.result.now c.in-Ok.script c.in-Ok.ensures
