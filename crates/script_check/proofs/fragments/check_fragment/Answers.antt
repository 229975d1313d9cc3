use Rattle.std.proofs.Common.{sym, ◌∙◌}
use Rattle.script_check.proofs.Operating.{fragment_fails, fragment_judged}
use Rattle.script_check.proofs.fragments.check_fragment.Goals as goal

pub returns-in-Some-clause-judged : goal.returns-in-Some-clause-judged
returns-in-Some-clause-judged c n d at b =
    let place = c.args.place in
    fragment_fails place.plan.now place.before.now place.columns.now place.frag.now c.args.line c.in-Some.reason n d (sym c.fault_of_fragment.ensures ∙ c.in-Some.is) at b

pub returns-clause-judged : goal.returns-clause-judged
returns-clause-judged c n d at b =
    let place = c.args.place in
    fragment_judged place.plan.now place.before.now place.columns.now place.frag.now c.check_operators.result c.args.line c.saturating_add.result c.behind_delay-next.result n d
    (sym c.fault_of_fragment.ensures ∙ c.in_default.is) at c.saturating_add.ensures c.behind_delay-next.ensures c.check_operators.ensures b
