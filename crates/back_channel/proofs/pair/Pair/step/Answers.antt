use Rattle.back_channel.proofs.Wholes.{stepped}
use Rattle.back_channel.proofs.pair.Pair.step.Goals as goal

pub returns-clause-told : goal.returns-clause-told
returns-clause-told c =
    let told = c.in-Ok-tell.ensures {u = tt} in
    stepped c.args.first.now c.args.second.now c.in-Ok-tell.items.items c.args.self.now c.read.new.self c.choose.new.self c.tell.new.self c.told-told.result
    c.told-told.ensures (c.in-Ok.ensures {u = tt}).read c.choose.ensures.chosen told.items told.agrees told.frame
