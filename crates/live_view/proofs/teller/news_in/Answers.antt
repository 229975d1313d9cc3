use Rattle.live_view.proofs.Tellings.{gathered-batch}
use Rattle.live_view.proofs.teller.news_in.Goals as goal

pub loop-batch-preserved : goal.loop-batch-preserved
loop-batch-preserved c =
    let l = c.loop-batch.gathering in
    let m = c.add_all.new.self in
    gathered-batch l.count l.bound l.tuples.items _ _ m.count m.bound m.tuples.items c.loop-batch.batch-index c.args.batches.now c.batch-item.result c.as_slice.result.now c.loop-batch-test.true c.batch-item.is
    c.as_slice.ensures c.in_ok-add_all.ensures.tuples c.in_ok-add_all.ensures.count c.in_ok-add_all.ensures.bound c.loop-batch.invariant
