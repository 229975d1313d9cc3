-- What was read can be run.
use Rattle.journal_commands.proofs.Promised.{input-can-run}
use Rattle.journal_commands.proofs.answering.replay_answer.Goals as goal

pub run_answer-requires : goal.run_answer-requires
run_answer-requires c = input-can-run c.args.notation c.as_slice.result.now c.in-Ok.script c.in-Ok.events.items (c.in-Ok.ensures {u = tt})
