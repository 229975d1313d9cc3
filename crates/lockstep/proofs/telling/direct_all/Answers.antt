use Rattle.std.specs.Prelude.{fold}
use Rattle.lockstep.specs.Locking.{Exceeds}
use Rattle.world_model.specs.Schedules.{tell_directive}
use Rattle.lockstep.proofs.Standing.{fold-exceeds, raised}
use Rattle.lockstep.proofs.Phasing.{grows-directive}
use Rattle.lockstep.proofs.telling.direct_all.Goals as goal

pub returns-in_err-direct-clause-long : goal.returns-in_err-direct-clause-long
returns-in_err-direct-clause-long g c =
    raised c.from_residual.result (Exceeds (λ x. fold tell_directive x c.args.directives.now) c.args.world.now) c.in_err-direct.field-0.0 c.from_residual.ensures
    (fold-exceeds tell_directive c.args.directives.now c.loop-directive.directive-index _ c.args.world.now c.loop-directive.world c.in_err-direct.field-0.0 grows-directive c.loop-directive-test.true c.loop-directive.invariant.follows
    c.in_err-direct.ensures.long)
