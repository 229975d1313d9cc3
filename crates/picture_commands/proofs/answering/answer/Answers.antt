-- What was read can be run.
use Rattle.std.proofs.Common.{ap}
use Rattle.script_rules.specs.Reading.{script_in}
use Rattle.journal_commands.proofs.Promised.{read-can-run}
use Rattle.picture_commands.proofs.answering.answer.Goals as goal

pub run_answer-requires : goal.run_answer-requires
run_answer-requires c = read-can-run c.as_slice.result.now c.in-Ok.script (ap script_in c.in-Ok.ensures)
