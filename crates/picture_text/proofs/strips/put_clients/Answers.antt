use Rattle.picture_text.specs.Strips.{client_at}
use Rattle.picture_text.proofs.Loops.{flat_grows}
use Rattle.picture_text.proofs.strips.put_clients.Goals as goal

pub loop-i-preserved : goal.loop-i-preserved
loop-i-preserved c = flat_grows (client_at c.args.before.now c.args.now.now) c.loop-i.i c.args.strip.now.items c.loop-i.strip.items _ c.loop-i.invariant c.in_ok-put_client.ensures
