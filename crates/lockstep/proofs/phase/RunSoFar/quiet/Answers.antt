use Rattle.std.proofs.Common.{◌≡◌, ◌+◌, ◌-◌, [], suc, arith, sym, subst, ◌∙◌, ℕ}
use Rattle.std.proofs.lemmas.Grind.{common_steps}
use Rattle.lockstep.specs.Locking.{Follows, Exceeds}
use Rattle.world_model.specs.Schedules.{tell_phase, tell_quiet}
use Rattle.lockstep.proofs.Standing.{Leads, raised}
use Rattle.lockstep.proofs.Phasing.{quiet-ends, quiet-lead, quiet-past}
use Rattle.lockstep.proofs.phase.RunSoFar.quiet.Goals as goal

pub returns-then-settled-clause-ok : goal.returns-then-settled-clause-ok
returns-then-settled-clause-ok g c =
    quiet-ends (tell_quiet c.args.most c.args.self.phase c.args.self.first (c.args.self.now + 1)) (c.args.most - c.loop.counter) c.loop.self.phase c.loop.self.first (c.loop.self.now + 1)
    c.args.self.world c.loop.self.world (sym c.settled.ensures ∙ c.if-settled.true) c.loop.invariant.leads

pub returns-in_err-phase-clause-long : goal.returns-in_err-phase-clause-long
returns-in_err-phase-clause-long g c =
    let f = tell_quiet c.args.most c.args.self.phase c.args.self.first (c.args.self.now + 1) in
    let fault = c.in_err-phase.field-0.0 in
    let one : c.args.most - c.loop.counter ≡ suc (c.args.most - (c.loop.counter + 1)) = omega arith in
    let clock : c.in_ok-now.now ≡ c.loop.self.now + 1 = grind (arith, common_steps) in
    raised c.from_residual-in_err-phase.result (Exceeds f c.args.self.world) fault c.from_residual-in_err-phase.ensures
    (quiet-past f (c.args.most - c.loop.counter) (c.args.most - (c.loop.counter + 1)) c.loop.self.phase c.loop.self.first (c.loop.self.now + 1) c.args.self.world c.loop.self.world fault
    (sym c.settled.ensures ∙ c.if-settled.false) one c.loop.invariant.leads
    (subst (λ (now : ℕ). Exceeds (tell_phase c.loop.self.phase c.loop.self.first [] now) c.loop.self.world fault) clock c.in_err-phase.ensures.long))

pub loop-preserved : goal.loop-preserved
loop-preserved g c =
    let f = tell_quiet c.args.most c.args.self.phase c.args.self.first (c.args.self.now + 1) in
    let left = c.args.most - (c.loop.counter + 1) in
    let one : c.args.most - c.loop.counter ≡ suc left = omega arith in
    let clock : c.in_ok-now.now ≡ c.loop.self.now + 1 = grind (arith, common_steps) in
    let on : Leads f (tell_quiet left c.phase.new.self.phase c.phase.new.self.first (c.loop.self.now + 1 + 1)) c.args.self.world c.phase.new.self.world =
    quiet-lead f (c.args.most - c.loop.counter) left c.loop.self.phase c.loop.self.first (c.loop.self.now + 1) c.phase.new.self.phase c.phase.new.self.first c.args.self.world c.loop.self.world c.phase.new.self.world
    (sym c.settled.ensures ∙ c.if-settled.false) one c.in_ok-phase.ensures.phase c.in_ok-phase.ensures.first c.loop.invariant.leads
    (subst (λ (now : ℕ). Follows (tell_phase c.loop.self.phase c.loop.self.first [] now) c.loop.self.world c.phase.new.self.world) clock c.in_ok-phase.ensures.ok) in
    record {
      leads = subst (λ (now : ℕ). Leads f (tell_quiet left c.phase.new.self.phase c.phase.new.self.first (now + 1)) c.args.self.world c.phase.new.self.world) (sym (c.in_ok-phase.ensures.clock ∙ clock)) on;
      saw = λ start before. c.in_ok-phase.ensures.saw start (c.loop.invariant.saw start before);
      stays = λ start before. c.phase.ensures.stays start (c.loop.invariant.stays start before);
    }
