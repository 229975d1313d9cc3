use Rattle.std.proofs.Common.{◌+◌, ◌∙◌, ℕ, ap, subst, IfErr}
use Rattle.world_model.specs.Schedules.{quiet_limit, tell_quiet}
use Rattle.lockstep.specs.Locking.{Exceeds}
use Rattle.lockstep.proofs.Ending.{whole-answers}
use Rattle.lockstep.proofs.phase.RunSoFar.settle.Goals as goal

pub returns-clause-whole : goal.returns-clause-whole
returns-clause-whole g c = whole-answers c.args.self c.quiet_limit-most.result c.quiet.result (c.quiet_limit-most.ensures ∙ ap quiet_limit c.plan.ensures) c.quiet.ensures.ok

pub returns-clause-long : goal.returns-clause-long
returns-clause-long g c =
    subst (λ (most : ℕ). IfErr c.quiet.result (Exceeds (tell_quiet most c.args.self.phase c.args.self.first (c.args.self.now + 1)) c.args.self.world)) (c.quiet_limit-most.ensures ∙ ap quiet_limit c.plan.ensures) c.quiet.ensures.long
