use Rattle.std.proofs.Common.{sym, ◌∙◌}
use Rattle.script_check.proofs.Clienting.{begin_fails, begin_judged}
use Rattle.script_check.proofs.clients.check_begin.Goals as goal

pub returns-then-lacks_part : goal.returns-then-lacks_part
returns-then-lacks_part c n d at b = begin_fails c.args.plan.now c.args.line n d (sym c.lacks_part.ensures ∙ c.if-lacks_part.true) at b

pub returns : goal.returns
returns c n d at b = begin_judged c.args.plan.now c.args.line c.saturating_add.result n d (sym c.lacks_part.ensures ∙ c.if-lacks_part.false) at c.saturating_add.ensures b
