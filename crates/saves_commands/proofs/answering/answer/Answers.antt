-- What was read can be run.
use Rattle.std.proofs.Common.{ap}
use Rattle.script_rules.specs.Reading.{script_in}
use Rattle.law_scripts.proofs.ReadChecked.{reads_checked}
use Rattle.journal_commands.proofs.Promised.{read-can-run}
use Rattle.saves_commands.proofs.answering.answer.Goals as goal

pub run_answer-requires-clause-can : goal.run_answer-requires-clause-can
run_answer-requires-clause-can c = read-can-run c.as_slice.result.now c.in-Ok.script (ap script_in c.in-Ok.ensures)

pub run_answer-requires-clause-checked : goal.run_answer-requires-clause-checked
run_answer-requires-clause-checked c = reads_checked c.as_slice.result.now c.in-Ok.script (ap script_in c.in-Ok.ensures)
