use Rattle.std.proofs.Common.{arith}
use Rattle.std.proofs.lemmas.Grind.{common_steps}
use Rattle.dpc_model.specs.Replicas.{new_watch, is_absent}
use Rattle.dpc_lists.proofs.Mapped.{noted-more}
use Rattle.node_links.proofs.peers.absences.Goals as goal

pub loop-r-preserved : goal.loop-r-preserved
loop-r-preserved c =
    let long = c.loop-r.invariant.long in
    let within = c.loop-r-test.true in
    let count = c.replicas-r-end.ensures.count in
    let most = c.replicas-r-end.ensures.most in
    record {
      long = grind (arith, common_steps);
      so_far = noted-more is_absent new_watch c.loop-r.r c.loop-r.absences c.args.watches.now c.is_absent.result
          (omega (arith, long, within, most)) (omega (arith, within, count)) c.is_absent.ensures c.loop-r.invariant.so_far;
    }
