use Rattle.std.proofs.Common.{◌<◌, length, arith}
use Rattle.held_tuples.proofs.Joined.{begins-at}
use Rattle.held_tuples.proofs.run.Run.begins_from.Goals as goal

pub returns-then-len-gt0 : goal.returns-then-len-gt0
returns-then-len-gt0 c =
    let long = c.len.ensures in
    let true_at = c.if-len-gt0.true in
    let some : 0 < length c.args.self.now = omega (arith, long, true_at) in begins-at c.args.time c.args.self.now c.tuple.result.now some c.tuple.ensures
