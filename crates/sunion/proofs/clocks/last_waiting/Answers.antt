use Rattle.std.proofs.Common.{◌∙◌, sym}
use Rattle.sunion.proofs.Stamping.{none-waiting}
use Rattle.sunion.proofs.clocks.last_waiting.Goals as goal

pub returns : goal.returns
returns c = sym (none-waiting c.args.clocks.now.items c.args.from c.args.delay c.args.now c.loop-end.end c.loop-end-test.false) ∙ c.loop-end.invariant.1
