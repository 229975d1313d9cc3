use Rattle.std.proofs.Common.{arith}
use Rattle.saves_commands.proofs.Texts.{whole-text}
use Rattle.saves_commands.proofs.lines.saves_text.Goals as goal

pub returns : goal.returns
returns c =
    let past = c.loop-saved-test.false in
    whole-text c.args.plan.now c.args.told.now c.loop-saved.text.items c.loop-saved.actor c.loop-saved.saved-index (omega (arith, past)) c.loop-saved.invariant
