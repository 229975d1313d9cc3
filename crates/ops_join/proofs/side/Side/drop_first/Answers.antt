use Rattle.std.proofs.Common.{◌-◌, length}
use Rattle.ops_join.specs.Sides.{slot_of}
use Rattle.ops_join.proofs.Walks.{AreChains-drop}
use Rattle.ops_join.proofs.side.Side.drop_first.Goals as goal

pub returns-clause-indexed : goal.returns-clause-indexed
returns-clause-indexed c = λ end keys i.
    let self = c.args.self.now in
    let heads = self.chains.heads.items in
    record {
      chains =
          rw (c.drop_first.ensures.heads, c.drop_first.ensures.before, c.pop_front.ensures.rest)
          (AreChains-drop (slot_of end keys (length heads)) (length heads - 1) self.first self.tuples.items heads self.chains.before.items c.requires i.chains);
    }
