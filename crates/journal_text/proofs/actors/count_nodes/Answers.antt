use Rattle.journal_text.proofs.Found.{counted_next}
use Rattle.journal_text.proofs.actors.count_nodes.Goals as goal

pub loop-frag-preserved : goal.loop-frag-preserved
loop-frag-preserved c =
    counted_next c.args.frags.now c.loop-frag.frag-index c.loop-frag.count c.in_ok-count.count c.frag-item.result c.loop-frag-test.true c.frag-item.is c.in_ok-count.ensures c.loop-frag.invariant
