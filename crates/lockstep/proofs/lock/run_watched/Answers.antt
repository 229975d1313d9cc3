use Rattle.world_model.specs.Schedules.{lockstep_journal}
use Rattle.lockstep.proofs.Ending.{ArePhases, first_lock, of-script, plain-ends, phases-excess, ends-settled, settled-answers, settled-past, raised-past}
use Rattle.lockstep.proofs.lock.run_watched.Given.{Over}
use Rattle.lockstep.proofs.lock.run_watched.Goals as goal
use Rattle.lockstep.proofs.lock.run_watched.Goals.{In_ok-phases}

pub returns-in_err-phases-clause-long : goal.returns-in_err-phases-clause-long
returns-in_err-phases-clause-long g c =
    raised-past c.from_residual-in_err-phases.result c.in_err-phases.field-0.0 c.args.script.plan (lockstep_journal c.args.script) c.from_residual-in_err-phases.ensures
    (phases-excess c.args.script c.as_slice.result.now c.in_ok-new.field-0 c.new-lock.result c.in_err-phases.field-0.0 c.in_ok-new.ensures c.new-lock.ensures c.as_slice.ensures c.in_err-phases.ensures.long)

-- behind the phases of the script
phased : (g : Over) (c : In_ok-phases g) → ArePhases c.args.script.phases (first_lock c.args.script.plan) c.phases-2.new.self
phased g c =
    of-script c.args.script c.as_slice.result.now c.in_ok-new.field-0 c.new-lock.result c.phases-2.new.self c.in_ok-new.ensures c.new-lock.ensures c.as_slice.ensures
    (record { follows = c.in_ok-phases.ensures.ok; number = c.in_ok-phases.ensures.phase; sent = c.in_ok-phases.ensures.first; clock = c.in_ok-phases.ensures.clock })

pub returns-then-settle-clause-ok : goal.returns-then-settle-clause-ok
returns-then-settle-clause-ok g c =
    settled-answers c.args.script c.phases-2.new.self c.settle.result c.if-settle.true (phased g (goal.at.returns-then-settle-clause-ok g c).In_ok-phases) c.settle.ensures.ok (λ w e. e.is)

pub returns-then-settle-clause-within : goal.returns-then-settle-clause-within
returns-then-settle-clause-within g c =
    settled-answers c.args.script c.phases-2.new.self c.settle.result c.if-settle.true (phased g (goal.at.returns-then-settle-clause-within g c).In_ok-phases) c.settle.ensures.ok (λ w e. e.within)

pub returns-then-settle-clause-long : goal.returns-then-settle-clause-long
returns-then-settle-clause-long g c =
    settled-past c.args.script c.phases-2.new.self c.settle.result c.if-settle.true (phased g (goal.at.returns-then-settle-clause-long g c).In_ok-phases) c.settle.ensures.long

pub returns-clause-ok : goal.returns-clause-ok
returns-clause-ok g c = (plain-ends c.args.script c.phases-2.new.self c.if-settle.false (phased g (goal.at.returns-clause-ok g c).In_ok-phases)).is

pub returns-clause-within : goal.returns-clause-within
returns-clause-within g c = (plain-ends c.args.script c.phases-2.new.self c.if-settle.false (phased g (goal.at.returns-clause-within g c).In_ok-phases)).within

pub returns-then-settle-clause-settles : goal.returns-then-settle-clause-settles
returns-then-settle-clause-settles g c =
    settled-answers c.args.script c.phases-2.new.self c.settle.result c.if-settle.true (phased g (goal.at.returns-then-settle-clause-settles g c).In_ok-phases) c.settle.ensures.ok (λ w e. ends-settled c.args.script w e)

pub returns-clause-settles : goal.returns-clause-settles
returns-clause-settles g c = ends-settled c.args.script c.phases-2.new.self.world (plain-ends c.args.script c.phases-2.new.self c.if-settle.false (phased g (goal.at.returns-clause-settles g c).In_ok-phases))
