-- What was read can be run, and what its run comes to keeps its promises; what was refused is refused.
use Rattle.journal_commands.proofs.Answered.{then-IfOk}
use Rattle.live_commands.specs.Endings.{Refused, readers_of}
use Rattle.live_commands.proofs.Ends.{can-run, can-end, refused-is}
use Rattle.live_commands.proofs.answering.answer.Goals as goal

pub run_answer-requires-clause-can : goal.run_answer-requires-clause-can
run_answer-requires-clause-can g c κs within = can-run c.as_slice.result.now c.in-Ok.script c.in-Ok.ensures

pub returns-in-Ok : goal.returns-in-Ok
returns-in-Ok g c =
    then-IfOk c.run_answer.result c.run_answer.ensures _ (λ outcome told. can-end c.args.notation (readers_of c.args.beside) c.args.input.items c.in-Ok.script outcome (rw c.as_slice.ensures.value at c.in-Ok.ensures) told)

pub returns-in_ok-fault_line-in-Refused : goal.returns-in_ok-fault_line-in-Refused
returns-in_ok-fault_line-in-Refused g c = (
  Refused c.in-Refused.fault,
  refused-is c.args.input.items c.read_script-script.result c.in-Err.why c.in-Refused.fault c.in-Err.is c.in-Refused.is
      (rw c.as_slice.ensures.value at c.read_script-script.ensures),
  c.in_ok-fault_line-in-Refused.ensures {u = tt},
)
