use Rattle.std.proofs.Common.{◌+◌, ◌-◌, ◌/◌, ◌<◌, ◌≤◌, arith}
use Rattle.held_tuples.proofs.Searching.{search-start, search-above, search-below}
use Rattle.held_tuples.proofs.run.Run.first_from.Goals as goal

pub loop-low-init : goal.loop-low-init
loop-low-init c = search-start c.args.self.now c.args.time c.len-high.result c.len-high.ensures

pub loop-low-preserved-then-from-time : goal.loop-low-preserved-then-from-time
loop-low-preserved-then-from-time c =
    let low = c.loop-low.low in
    let high = c.loop-low.high in
    let some : low < high = c.loop-low-test.true in
    let within : low + (high - low) / 2 < high = omega (arith, some) in
    let same = c.from.ensures in
    let test = c.if-from-time.true in
    let time : c.tuple.result.now.stime < c.args.time = omega (arith, same, test) in
    search-above c.args.self.now c.args.time low high (low + (high - low) / 2) c.tuple.result.now within (c.tuple.ensures c.tuple.result.now) time c.loop-low.invariant

pub loop-low-preserved : goal.loop-low-preserved
loop-low-preserved c =
    let low = c.loop-low.low in
    let high = c.loop-low.high in
    let some : low < high = c.loop-low-test.true in
    let within : low + (high - low) / 2 < high = omega (arith, some) in
    let same = c.from.ensures in
    let test = c.if-from-time.false in
    let time : c.args.time ≤ c.tuple.result.now.stime = omega (arith, same, test) in
    search-below c.args.self.now c.args.time low high (low + (high - low) / 2) c.tuple.result.now within (omega arith) (c.tuple.ensures c.tuple.result.now) time c.loop-low.invariant
