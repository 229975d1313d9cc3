use Rattle.std.proofs.Common.{sym, subst, ◌∙◌}
use Rattle.script_check.proofs.Running.{DirectivesJudge, phase_judged, phase_ticks_wrong, phase_fails}
use Rattle.script_check.proofs.directives.check_phase.Goals as goal

pub returns-in-Some : goal.returns-in-Some
returns-in-Some c =
    let plan = c.args.plan.now in
    let ps = c.args.before.now in
    let q = c.args.phase.now in
    phase_ticks_wrong plan ps q c.args.line c.in-Ok.next c.in-Some.reason (sym c.fault_of_tick.ensures ∙ c.in-Some.is)
    (subst (DirectivesJudge plan ps q.directives c.args.line) c.in-Ok.is (subst (λ l. DirectivesJudge plan ps l c.args.line c.check_directives.result) c.as_slice.ensures c.check_directives.ensures))

pub returns-in-None : goal.returns-in-None
returns-in-None c =
    let plan = c.args.plan.now in
    let ps = c.args.before.now in
    let q = c.args.phase.now in
    phase_judged plan ps q c.args.line c.in-Ok.next c.saturating_add.result (sym c.fault_of_tick.ensures ∙ c.in-None.is) c.saturating_add.ensures
    (subst (DirectivesJudge plan ps q.directives c.args.line) c.in-Ok.is (subst (λ l. DirectivesJudge plan ps l c.args.line c.check_directives.result) c.as_slice.ensures c.check_directives.ensures))

pub returns-in-Err : goal.returns-in-Err
returns-in-Err c =
    let plan = c.args.plan.now in
    let ps = c.args.before.now in
    let q = c.args.phase.now in
    phase_fails plan ps q c.args.line c.in-Err.fault
    (subst (DirectivesJudge plan ps q.directives c.args.line) c.in-Err.is (subst (λ l. DirectivesJudge plan ps l c.args.line c.check_directives.result) c.as_slice.ensures c.check_directives.ensures))
