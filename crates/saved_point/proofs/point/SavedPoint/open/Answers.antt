use Rattle.std.proofs.Common.{◌≡◌, ℕ}
use Rattle.saved_slots.specs.declared.fault.SaveFault.TheVariants.{Broken}
use Rattle.saved_point.specs.Points.{IsBroken}
use Rattle.saved_point.proofs.Keeping.{broken-slot, handed-on}
use Rattle.saved_point.proofs.point.SavedPoint.open.Goals as goal

pub returns-in_err-slots-clause-broken : goal.returns-in_err-slots-clause-broken
returns-in_err-slots-clause-broken g c honest =
    let image = g.D.Disk.seen c.args.disk in
    handed-on (λ refused. (slot : ℕ) → refused.0 ≡ Broken slot → IsBroken c.args.plan.now c.args.frag c.args.room image slot) c.in_err-slots.field-0.0 c.from_residual.result
    c.from_residual.ensures.1 (broken-slot c.args.plan.now c.args.frag c.args.room image c.in_err-slots.field-0.0.0 (c.in_err-slots.ensures.broken honest))
