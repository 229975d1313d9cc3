use Rattle.std.proofs.Common.{refl, sym, ◌∙◌}
use Rattle.script_check.proofs.Running.{directives_go_on, directives_fail}
use Rattle.script_check.proofs.directives.check_directives.Goals as goal

pub returns-in-Some : goal.returns-in-Some
returns-in-Some c n at k =
    directives_fail c.args.plan.now c.args.before.now c.args.line c.args.directives.now c.loop-i.i c.loop-i.next c.in-Some.reason _ _ c.loop-i-test.true refl
    (sym c.fault_of_directive.ensures ∙ c.in-Some.is) c.loop-i.invariant n at k

pub loop-i-preserved : goal.loop-i-preserved
loop-i-preserved c =
    directives_go_on c.args.plan.now c.args.before.now c.args.line c.args.directives.now c.loop-i.i c.loop-i.next c.saturating_add-next.result _ _ c.loop-i-test.true refl
    (sym c.fault_of_directive.ensures ∙ c.in_default.is) c.saturating_add-next.ensures c.loop-i.invariant
