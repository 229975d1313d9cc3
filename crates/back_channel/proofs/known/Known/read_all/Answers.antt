use Rattle.back_channel.proofs.Holding.{reads-more}
use Rattle.back_channel.proofs.known.Known.read_all.Goals as goal

pub loop-item-preserved : goal.loop-item-preserved
loop-item-preserved c =
    reads-more c.args.items.now c.loop-item.item-index c.item-item.result c.args.self.now c.loop-item.self c.read.new.self c.args.side.now c.loop-item.side c.read.new.side
    c.loop-item-test.true c.item-item.is c.loop-item.invariant (c.in_ok-read.ensures {u = tt})
