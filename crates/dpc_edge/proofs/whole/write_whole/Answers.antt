use Rattle.std.proofs.Common.{arith}
use Rattle.dpc_edge.proofs.Wholes.{Took-next}
use Rattle.dpc_edge.proofs.whole.write_whole.Goals as goal

pub loop-done-preserved : goal.loop-done-preserved
loop-done-preserved g c =
    let loop = c.loop-done.invariant in
    record {
      within = omega (arith, c.in_ok-done.ensures.bound);
      took = Took-next _ _ _ c.loop-done.done c.in_ok-done.field-0 c.args.text.now loop.took c.in_ok-done.ensures.took;
    }
