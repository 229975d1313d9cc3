use Rattle.std.proofs.Common.{take, subst}
use Rattle.script_check.proofs.Running.{PhaseJudges, phases_go_on, phases_fail}
use Rattle.script_check.proofs.directives.check_phases.Goals as goal

pub returns-in-Err : goal.returns-in-Err
returns-in-Err c =
    let qs = c.args.phases.now in
    let q = c.index-phases-i.result in
    phases_fail c.args.plan.now c.args.line qs c.loop-i.i c.loop-i.next c.in-Err.fault q c.loop-i-test.true c.index-phases-i.is c.loop-i.invariant
    (subst (PhaseJudges c.args.plan.now (take c.loop-i.i qs) q c.loop-i.next) c.in-Err.is c.check_phase.ensures)

pub loop-i-preserved : goal.loop-i-preserved
loop-i-preserved c =
    let qs = c.args.phases.now in
    let q = c.index-phases-i.result in
    phases_go_on c.args.plan.now c.args.line qs c.loop-i.i c.loop-i.next c.in-Ok.behind q c.loop-i-test.true c.index-phases-i.is c.loop-i.invariant
    (subst (PhaseJudges c.args.plan.now (take c.loop-i.i qs) q c.loop-i.next) c.in-Ok.is c.check_phase.ensures)
