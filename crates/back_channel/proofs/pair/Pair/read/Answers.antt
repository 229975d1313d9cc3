use Rattle.back_channel.proofs.Stepping.{reads-both}
use Rattle.back_channel.proofs.pair.Pair.read.Goals as goal

pub returns-clause-read : goal.returns-clause-read
returns-clause-read c =
    reads-both c.args.first.now c.args.second.now c.args.self.now c.read_all.new.self c.read_all-2.new.self c.read_all.new.side c.read_all-2.new.side
    (c.in_ok-read_all.ensures {u = tt}) (c.in_ok-read_all-2.ensures {u = tt})
