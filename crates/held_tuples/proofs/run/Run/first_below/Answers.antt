use Rattle.std.proofs.Common.{◌<◌, ◌∙◌, length, arith}
use Rattle.held_tuples.proofs.Dropping.{drops-next, drops-upto}
use Rattle.held_tuples.proofs.run.Run.first_below.Goals as goal

pub returns-then-tuple-time-clause-rest : goal.returns-then-tuple-time-clause-rest
returns-then-tuple-time-clause-rest c =
    let test = c.loop-place-test.true in
    let long = c.len-place-end.ensures in
    let inside : c.loop-place.place < length c.args.self.now = omega (arith, test, long) in
    drops-upto c.args.time c.loop-place.place c.args.self.now c.tuple.result.now c.tuple.result.now inside (c.tuple.ensures c.tuple.result.now) c.if-tuple-time.true ∙ c.loop-place.invariant

pub loop-place-preserved : goal.loop-place-preserved
loop-place-preserved c =
    let test = c.loop-place-test.true in
    let long = c.len-place-end.ensures in
    let inside : c.loop-place.place < length c.args.self.now = omega (arith, test, long) in
    drops-next c.args.time c.loop-place.place c.args.self.now c.tuple.result.now c.tuple.result.now inside (c.tuple.ensures c.tuple.result.now) c.if-tuple-time.false ∙ c.loop-place.invariant
