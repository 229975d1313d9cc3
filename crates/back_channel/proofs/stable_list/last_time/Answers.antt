use Rattle.std.proofs.Common.{sym}
use Rattle.back_channel.proofs.Times.{last-get}
use Rattle.back_channel.proofs.stable_list.last_time.Goals as goal

pub returns-in-Some : goal.returns-in-Some
returns-in-Some c = sym (last-get c.args.tuples.now c.in-Some.last.now (sym (c.in-Some.ensures {u = tt}).value))
