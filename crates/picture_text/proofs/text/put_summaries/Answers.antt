use Rattle.picture_text.specs.Text.{summary_line}
use Rattle.picture_text.proofs.Loops.{lines_grow}
use Rattle.picture_text.proofs.text.put_summaries.Goals as goal

pub loop-client-preserved : goal.loop-client-preserved
loop-client-preserved c =
    lines_grow (summary_line c.args.plan.now c.args.clients.now) c.loop-client.client c.args.text.now.items c.loop-client.text.items _ c.loop-client.invariant c.in_ok-put_summary_of.ensures
