-- The first entry that would pass a limit reaches these numbers.
use Rattle.journal_replay.specs.declared.faults.ReplayFault.TheVariants.{TooLong}
use Rattle.journal_replay.specs.Stopping.{StopsSo}
use Rattle.journal_commands.proofs.Answered.{long-is}
use Rattle.journal_commands.proofs.answering.run_answer.Goals as goal

pub returns-in_ok-too_long_line-in-Err-TooLong : goal.returns-in_ok-too_long_line-in-Err-TooLong
returns-in_ok-too_long_line-in-Err-TooLong c =
    let stop : StopsSo c.args.script c.args.events.now (TooLong c.in-Err-TooLong.envelopes c.in-Err-TooLong.items) = rw c.in-Err-TooLong.field-0-is at c.in-Err-TooLong.ensures.err in
    long-is c.args.script c.args.events.now stop.0 _ _ stop.1 c.in_ok-too_long_line-in-Err-TooLong.ensures
