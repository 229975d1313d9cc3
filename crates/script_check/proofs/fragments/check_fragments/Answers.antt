use Rattle.std.proofs.Common.{◌+◌, take, sym, subst}
use Rattle.script_check.proofs.Operating.{AreFragsTo, FragmentJudges, frags_go_on, frags_fail}
use Rattle.script_check.proofs.fragments.check_fragments.Goals as goal

pub returns-in-Err : goal.returns-in-Err
returns-in-Err c n at =
    let plan = c.args.plan.now in
    let fs = c.as_slice-frags.result.now in
    let f = c.index-frags-i.result in
    frags_fail plan c.args.line fs c.loop-i.i c.loop-i.columns.items c.loop-i.next c.in-Err.fault f c.loop-i-test.true c.index-frags-i.is c.as_slice-frags.ensures c.loop-i.invariant
    (subst (FragmentJudges plan (take c.loop-i.i fs) c.loop-i.columns.items f c.loop-i.next) c.in-Err.is
    (subst (λ l. FragmentJudges plan (take c.loop-i.i fs) l f c.loop-i.next c.check_fragment.result) c.as_slice.ensures.value c.check_fragment.ensures.judged)) n at

pub loop-i-preserved : goal.loop-i-preserved
loop-i-preserved c =
    let plan = c.args.plan.now in
    let fs = c.as_slice-frags.result.now in
    let f = c.index-frags-i.result in
    subst (λ l. AreFragsTo plan c.args.line fs (c.loop-i.i + 1) l c.in-Ok.behind) (sym c.push.ensures.items)
    (frags_go_on plan c.args.line fs c.loop-i.i c.loop-i.columns.items c.loop-i.next (c.in-Ok.behind, c.in-Ok.own) f c.loop-i-test.true c.index-frags-i.is c.loop-i.invariant
    (subst (FragmentJudges plan (take c.loop-i.i fs) c.loop-i.columns.items f c.loop-i.next) c.in-Ok.is
    (subst (λ l. FragmentJudges plan (take c.loop-i.i fs) l f c.loop-i.next c.check_fragment.result) c.as_slice.ensures.value c.check_fragment.ensures.judged)))
