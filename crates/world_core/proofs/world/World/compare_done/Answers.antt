use Rattle.std.proofs.Common.{Err, refl, ap, sym, subst}
use Rattle.law_work.specs.TrueWork.{IsTrueWork}
use Rattle.world_parts.proofs.PartFrames.{handed_on}
use Rattle.world_core.specs.Handing.{Fits, IsStaleAt, fault_of_parts}
use Rattle.world_core.specs.Runs.{RunOf}
use Rattle.world_core.proofs.Running.{some-stands}
use Rattle.world_core.proofs.Lent.{fits-still, stale-still}
use Rattle.world_core.proofs.Work.{long-told, stale-told, none-told}
use Rattle.world_core.proofs.world.World.compare_done.Goals as goal

pub compare_done-requires-clause-some : goal.compare_done-requires-clause-some
compare_done-requires-clause-some c = some-stands c.self.inside.roster c.self.inside.parts c.self.inside.events.items c.self.invariant.0 (c.self.invariant.1 c.if-self.false)

pub returns-in_err-compare_done-clause-stale : goal.returns-in_err-compare_done-clause-stale
returns-in_err-compare_done-clause-stale c = λ had needed told.
    let o = c.args.done.now.order in
    let why = c.in_err-compare_done.field-0.0 in
    let is = stale-told why (fault_of_parts why) had needed refl (handed_on c.from_residual.result _ _ c.from_residual.ensures.1 told) in
    let at = (c.in_err-compare_done.ensures {u = tt}).stale had needed (ap Err is) in
    subst (λ (r : RunOf). IsStaleAt r o had needed) c.self.view_is (stale-still _ c.self.inside.parts o had needed c.self.invariant.0 (c.self.invariant.1 c.if-self.false) at)

pub returns-in_err-compare_done-clause-long : goal.returns-in_err-compare_done-clause-long
returns-in_err-compare_done-clause-long c = λ envelopes items told.
    let why = c.in_err-compare_done.field-0.0 in
    (c.in_err-compare_done.ensures {u = tt}).long envelopes items (ap Err (long-told why (fault_of_parts why) envelopes items refl (handed_on c.from_residual.result _ _ c.from_residual.ensures.1 told)))

pub returns-clause-fits : goal.returns-clause-fits
returns-clause-fits c =
    subst (λ (r : RunOf). Fits r c.args.done.now.order) c.self.view_is (fits-still _ c.self.inside.parts c.args.done.now.order c.self.invariant.0 (c.self.invariant.1 c.if-self.false) (c.in_ok-compare_done.ensures {u = tt}).fits)

pub compare_done-requires-clause-work : goal.compare_done-requires-clause-work
compare_done-requires-clause-work c = subst (λ (r : RunOf). IsTrueWork r.plan c.args.done.now.order) (sym c.self.view_is) c.requires

pub returns-in_err-compare_done-clause-enough : goal.returns-in_err-compare_done-clause-enough
returns-in_err-compare_done-clause-enough c = λ told.
    let why = c.in_err-compare_done.field-0.0 in
    (c.in_err-compare_done.ensures {u = tt}).enough (ap Err (none-told why (fault_of_parts why) refl (handed_on c.from_residual.result _ _ c.from_residual.ensures.1 told)))
