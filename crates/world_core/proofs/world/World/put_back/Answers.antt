use Rattle.std.proofs.Common.{◌≡◌, ◌∙◌, ◌++◌, ◌∷◌, [], ◌+◌, false, Err, length, List, ap, sym, subst}
use Rattle.dpc_model.specs.declared.messages.Event.{Event}
use Rattle.dpc_model.specs.declared.messages.Event.TheVariants as event
use Rattle.world_model.specs.Worlds.{run, passes_limit, WouldReach}
use Rattle.world_model.specs.Safe.{IsSafeStep}
use Rattle.law_work.specs.TrueWork.{IsTrueWork}
use Rattle.law_promises.proofs.Kept.{promises-kept, next-safe}
use Rattle.world_parts.specs.Parts.{StandsForWorld}
use Rattle.world_core.specs.Handing.{Fits, IsStaleAt}
use Rattle.world_core.specs.Runs.{RunOf, world_of}
use Rattle.world_core.proofs.Running.{run-stands, some-stands, next-stands, would-reach}
use Rattle.world_core.proofs.Lent.{fits-still, stale-still}
use Rattle.world_core.proofs.Work.{long-told, stale-told, stale-kept, same-run}
use Rattle.world_core.proofs.world.World.put_back.Goals as goal

pub put_back-requires-clause-some : goal.put_back-requires-clause-some
put_back-requires-clause-some c = some-stands c.self.inside.roster c.self.inside.parts c.self.inside.events.items c.self.invariant.0 (c.self.invariant.1 c.if-self.false)

pub put_back-requires-clause-work : goal.put_back-requires-clause-work
put_back-requires-clause-work c = subst (λ (r : RunOf). IsTrueWork r.plan c.args.done.order) (sym c.self.view_is) c.requires

pub returns-in-Err-clause-long : goal.returns-in-Err-clause-long
returns-in-Err-clause-long c = λ envelopes items told.
    let o = c.args.done.order in
    let e = event.Mill o.node (length o.buckets) in
    let past = (c.in-Err.ensures {u = tt}).long envelopes items (ap Err (long-told c.in-Err.fault c.from-fault.result envelopes items c.from-fault.ensures told)) in
    subst (λ (r : RunOf). WouldReach (world_of r) e envelopes items) c.self.view_is
    (would-reach c.self.inside.roster c.self.inside.parts c.self.inside.events.items e envelopes items c.self.invariant.0 (c.self.invariant.1 c.if-self.false) past)

pub returns-in-Err-clause-stale : goal.returns-in-Err-clause-stale
returns-in-Err-clause-stale c = λ had needed told.
    let o = c.args.done.order in
    let at = (c.in-Err.ensures {u = tt}).stale had needed (ap Err (stale-told c.in-Err.fault c.from-fault.result had needed c.from-fault.ensures told)) in (
      same-run c.self.inside.roster _ c.self.inside.events.items _ c.self.inside.spent c.args.self.now c.reserve.ensures.items (c.is_loss-self-inside.ensures ∙ stale-kept c.from-fault.result had needed told ∙ sym c.if-self.false) c.self.view_is,
      subst (λ (r : RunOf). IsStaleAt r o had needed) c.self.view_is (stale-still _ c.self.inside.parts o had needed c.self.invariant.0 (c.self.invariant.1 c.if-self.false) at.1),
    )

pub invariant_of-self-2 : goal.invariant_of-self-2
invariant_of-self-2 c =
    let plan = c.self.inside.roster in
    let old = c.self.inside.events.items in
    let o = c.args.done.order in
    let e = event.Mill o.node (length o.buckets) in
    let is : c.in_ok-event.event ≡ e = (c.in_ok-event.ensures {u = tt}) in
    let events = (c.in-Ok.ensures {u = tt}).items ∙ ap (λ (es : List Event). es ++ c.in_ok-event.event ∷ []) c.reserve.ensures.items ∙ ap (λ (q : Event). old ++ q ∷ []) is in (
      c.self.invariant.0,
      λ live. subst (λ (es : List Event). StandsForWorld plan c.put_back.new.self (run plan es)) (sym events)
          (next-stands plan c.self.inside.parts c.put_back.new.self old e c.self.invariant.0 (c.self.invariant.1 c.if-self.false) (c.in_default.ensures {u = tt}).ok),
    )

pub returns-clause-within : goal.returns-clause-within
returns-clause-within c =
    let plan = c.self.inside.roster in
    let events = c.self.inside.events.items in
    let o = c.args.done.order in
    let e = event.Mill o.node (length o.buckets) in
    let here = run-stands plan c.self.inside.parts events c.self.invariant.0 (c.self.invariant.1 c.if-self.false) in
    subst (λ (r : RunOf). passes_limit (world_of r) e ≡ false) c.self.view_is ((c.in_default.ensures {u = tt}).ok.within (run plan events) (1 + length events) here)

pub returns-clause-fits : goal.returns-clause-fits
returns-clause-fits c =
    let o = c.args.done.order in
    subst (λ (r : RunOf). Fits r o) c.self.view_is (fits-still _ c.self.inside.parts o c.self.invariant.0 (c.self.invariant.1 c.if-self.false) (c.in_default.ensures {u = tt}).fits)

pub returns-clause-keeps : goal.returns-clause-keeps
returns-clause-keeps c = promises-kept _ _ c.self.invariant.0.checked

pub returns-clause-step : goal.returns-clause-step
returns-clause-step c =
    subst (λ (r : RunOf). IsSafeStep (world_of r) (event.Mill c.args.done.order.node (length c.args.done.order.buckets))) c.self.view_is (next-safe c.self.inside.roster c.self.inside.events.items (event.Mill c.args.done.order.node (length c.args.done.order.buckets)) c.self.invariant.0.checked)
