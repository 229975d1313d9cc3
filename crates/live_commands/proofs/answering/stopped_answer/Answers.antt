-- The journal up to the event that would pass a limit, and the line that says so.
use Rattle.live_commands.proofs.Ends.{stopped-ends}
use Rattle.live_commands.proofs.answering.stopped_answer.Goals as goal

pub returns : goal.returns
returns c = λ readers script h.
    stopped-ends c.args.notation script c.args.world.now c.args.stop c.in_ok-entries.entries.items c.in_ok-line.line.items h (c.in_ok-entries.ensures {u = tt}) (c.in_ok-line.ensures {u = tt})
