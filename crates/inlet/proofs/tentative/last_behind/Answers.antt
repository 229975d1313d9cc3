use Rattle.inlet.proofs.Upto.{next-behind}
use Rattle.inlet.proofs.tentative.last_behind.Goals as goal

pub loop-tuple-preserved : goal.loop-tuple-preserved
loop-tuple-preserved c =
    λ before h. next-behind c.loop-tuple.last c.loop-tuple.tuple-index before c.args.tuples.now c.tuple-item.result _ c.loop-tuple-test.true c.tuple-item.is (c.loop-tuple.invariant before h) c.if-tuple-last.false
