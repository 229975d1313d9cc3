-- What was read can be run.
use Rattle.input_parts.specs.declared.notation.Notation.TheVariants.{Lines}
use Rattle.journal_commands.proofs.Promised.{input-can-run}
use Rattle.picture_commands.proofs.replaying.journal_answer.Goals as goal

pub replay_answer-requires : goal.replay_answer-requires
replay_answer-requires c = input-can-run Lines c.as_slice.result.now c.in-Ok.script c.in-Ok.events.items (c.in-Ok.ensures {u = tt})
