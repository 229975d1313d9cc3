use Rattle.std.proofs.Common.{List, subst}
use Rattle.dpc_model.specs.declared.messages.Event.{Event}
use Rattle.lockstep.specs.Locking.{Follows, Exceeds}
use Rattle.world_model.specs.Schedules.{tell_phase, tell_all}
use Rattle.lockstep.proofs.Standing.{raised}
use Rattle.lockstep.proofs.Phasing.{phase-follows, phase-exceeds-first, phase-exceeds-directed}
use Rattle.lockstep.proofs.phase.RunSoFar.phase.Goals as goal

pub returns-in_err-tell-clause-long : goal.returns-in_err-tell-clause-long
returns-in_err-tell-clause-long g c =
    raised c.from_residual-in_err-tell.result (Exceeds (tell_phase c.args.self.now.phase c.args.self.now.first c.args.directives.now c.args.now) c.args.self.now.world) c.in_err-tell.field-0.0
    c.from_residual-in_err-tell.ensures
    (phase-exceeds-first c.args.self.now.phase c.args.self.now.first c.envelope_count-sent.result c.args.directives.now c.args.now c.args.self.now.world c.in_err-tell.field-0.0 c.envelope_count-sent.ensures
    c.in_err-tell.ensures.long)

pub returns-in_err-direct_all-clause-long : goal.returns-in_err-direct_all-clause-long
returns-in_err-direct_all-clause-long g c =
    raised c.from_residual-in_err-direct_all.result (Exceeds (tell_phase c.args.self.now.phase c.args.self.now.first c.args.directives.now c.args.now) c.args.self.now.world) c.in_err-direct_all.field-0.0
    c.from_residual-in_err-direct_all.ensures
    (phase-exceeds-directed c.args.self.now.phase c.args.self.now.first c.envelope_count-sent.result c.args.directives.now c.args.now c.args.self.now.world c.tell.new.world c.in_err-direct_all.field-0.0
    c.envelope_count-sent.ensures c.in_ok-tell.ensures.ok c.in_err-direct_all.ensures.long)

pub returns-clause-ok : goal.returns-clause-ok
returns-clause-ok g c =
    phase-follows c.args.self.now.phase c.args.self.now.first c.envelope_count-sent.result c.args.directives.now c.args.now c.in_ok-events.events.items c.args.self.now.world c.tell.new.world c.direct_all.new.world
    c.tell_all.new.world c.envelope_count-sent.ensures c.in_ok-events.ensures c.in_ok-tell.ensures.ok c.in_ok-direct_all.ensures.ok
    (subst (λ (es : List Event). Follows (λ x. tell_all x es) c.direct_all.new.world c.tell_all.new.world) c.as_slice.ensures.value c.in_ok-tell_all.ensures.ok)
