use Rattle.std.proofs.Common.{Err, refl, ap, subst}
use Rattle.world_parts.proofs.PartFrames.{handed_on}
use Rattle.world_core.specs.Handing.{Fits, IsStaleAt, fault_of_parts}
use Rattle.world_core.specs.Runs.{RunOf}
use Rattle.world_core.proofs.Running.{some-stands}
use Rattle.world_core.proofs.Work.{still-fits, still-stale, long-told, stale-told}
use Rattle.world_core.proofs.world.World.compare.Goals as goal

pub compare-requires-clause-some : goal.compare-requires-clause-some
compare-requires-clause-some c = some-stands c.self.inside.roster c.self.inside.parts c.self.inside.events.items c.self.invariant.0 (c.self.invariant.1 c.if-self.false)

pub returns-in_err-compare-clause-stale : goal.returns-in_err-compare-clause-stale
returns-in_err-compare-clause-stale c = λ had needed told.
    let o = c.args.milled.now.order in
    let why = c.in_err-compare.field-0.0 in
    let is = stale-told why (fault_of_parts why) had needed refl (handed_on c.from_residual.result _ _ c.from_residual.ensures.1 told) in
    let at = (c.in_err-compare.ensures {u = tt}).stale had needed (ap Err is) in
    subst (λ (r : RunOf). IsStaleAt r o had needed) c.self.view_is (still-stale _ c.self.inside.parts o had needed c.self.invariant.0 (c.self.invariant.1 c.if-self.false) at)

pub returns-in_err-compare-clause-long : goal.returns-in_err-compare-clause-long
returns-in_err-compare-clause-long c = λ envelopes items told.
    let why = c.in_err-compare.field-0.0 in
    (c.in_err-compare.ensures {u = tt}).long envelopes items (ap Err (long-told why (fault_of_parts why) envelopes items refl (handed_on c.from_residual.result _ _ c.from_residual.ensures.1 told)))

pub returns-clause-fits : goal.returns-clause-fits
returns-clause-fits c =
    subst (λ (r : RunOf). Fits r c.args.milled.now.order) c.self.view_is (still-fits _ c.self.inside.parts c.args.milled.now.order c.self.invariant.0 (c.self.invariant.1 c.if-self.false) (c.in_ok-compare.ensures {u = tt}).fits)
