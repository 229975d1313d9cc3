use Rattle.std.proofs.Common.{List, subst}
use Rattle.dpc_model.specs.declared.scripts.Directive.{Directive}
use Rattle.lockstep.specs.Locking.{Exceeds}
use Rattle.world_model.specs.Schedules.{tell_phase, tell_phases}
use Rattle.lockstep.proofs.Standing.{raised}
use Rattle.lockstep.proofs.Phasing.{phases-past}
use Rattle.lockstep.proofs.phase.RunSoFar.phases.Goals as goal

pub returns-in_err-phase-clause-long : goal.returns-in_err-phase-clause-long
returns-in_err-phase-clause-long g c =
    let p = c.loop-phase.self.phase in
    let first = c.loop-phase.self.first in
    let fault = c.in_err-phase.field-0.0 in
    raised c.from_residual.result (Exceeds (λ x. (tell_phases c.args.self.now.phase c.args.self.now.first c.args.phases.now x).1) c.args.self.now.world) fault c.from_residual.ensures
    (phases-past (tell_phases c.args.self.now.phase c.args.self.now.first c.args.phases.now) c.args.phases.now c.loop-phase.phase-index c.phase-item.result p first c.args.self.now.world c.loop-phase.self.world fault
    c.loop-phase-test.true c.phase-item.is c.loop-phase.invariant.leads
    (subst (λ (ds : List Directive). Exceeds (tell_phase p first ds c.phase-item.result.now) c.loop-phase.self.world fault) c.as_slice.ensures c.in_err-phase.ensures.long))
