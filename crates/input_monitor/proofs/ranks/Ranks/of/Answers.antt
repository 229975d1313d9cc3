use Rattle.std.proofs.Common.{arith}
use Rattle.std.proofs.lemmas.Grind.{common_steps}
use Rattle.dpc_model.specs.Replicas.{rank_of}
use Rattle.dpc_lists.proofs.Mapped.{set-mapped}
use Rattle.input_monitor.proofs.ranks.Ranks.of.Goals as goal

pub loop-r-preserved : goal.loop-r-preserved
loop-r-preserved c =
    let long = c.loop-r.invariant.long in
    let within = c.loop-r-test.true in
    record {
      long = grind (arith, common_steps);
      so_far = set-mapped rank_of c.loop-r.r c.loop-r.ranks c.args.watches.now c.rank.result c.index-watches-r.result
          (let most = c.requires in omega (arith, long, within, most)) within c.index-watches-r.is c.rank.ensures c.loop-r.invariant.so_far;
    }
