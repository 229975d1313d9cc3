use Rattle.std.proofs.Common.{sym, subst}
use Rattle.audit_core.specs.Audits.{audited, judged, IsAudit}
use Rattle.audit_core.proofs.Lawful.{stopped}
use Rattle.audit_core.proofs.audit.Goals as goal

pub returns-in_err-recorded : goal.returns-in_err-recorded
unfolding audited
returns-in_err-recorded c =
    stopped c.args.plan.now c.args.stream _ c.in_err-recorded.field-0.0 c.from_residual.result c.from_residual.ensures.1 (c.in_err-recorded.ensures {u = tt})

pub returns : goal.returns
unfolding audited
returns c =
    let read = c.in_ok-recorded.ensures {u = tt} in
    subst (λ told. IsAudit (judged c.args.plan.now c.args.stream told) c.compare.result) (sym read.1) (c.compare.ensures read.0 read.2)
