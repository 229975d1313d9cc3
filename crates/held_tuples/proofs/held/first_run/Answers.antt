use Rattle.std.proofs.Common.{◌+◌, ◌-◌, ◌/◌, ◌<◌, length, sym, arith}
use Rattle.held_tuples.proofs.Joined.{below-upto}
use Rattle.held_tuples.proofs.held.first_run.Goals as goal

pub loop-low-preserved-then-ends_below : goal.loop-low-preserved-then-ends_below
loop-low-preserved-then-ends_below c =
    let low = c.loop-low.low in
    let high = c.loop-low.high in
    let some : low < high = c.loop-low-test.true in
    let end = c.loop-low.invariant.1 in
    let within : low + (high - low) / 2 < length c.args.runs.now.items = omega (arith, some, end) in
    (omega (arith, some), end, λ o. below-upto c.args.time (low + (high - low) / 2) c.args.runs.now.items c.index.result.now within c.index.ensures (sym c.if-ends_below.ensures) o)
