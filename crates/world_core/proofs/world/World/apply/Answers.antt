use Rattle.std.proofs.Common.{◌≡◌, ◌∙◌, ◌++◌, ◌∷◌, [], ◌+◌, false, Err, length, List, ap, sym, subst}
use Rattle.dpc_model.specs.declared.messages.Event.{Event}
use Rattle.world_model.specs.Worlds.{run, passes_limit, WouldReach}
use Rattle.world_model.specs.Safe.{IsSafeStep}
use Rattle.law_promises.proofs.Kept.{promises-kept, next-safe}
use Rattle.world_parts.specs.Parts.{StandsForWorld}
use Rattle.world_parts.proofs.PartFrames.{handed_on}
use Rattle.world_core.specs.Runs.{RunOf, world_of}
use Rattle.world_core.proofs.Running.{run-stands, some-stands, next-stands, would-reach, too-long}
use Rattle.world_core.proofs.world.World.apply.Goals as goal

pub happen-requires-clause-some : goal.happen-requires-clause-some
happen-requires-clause-some c = some-stands c.self.inside.roster c.self.inside.parts c.self.inside.events.items c.self.invariant.0 (c.self.invariant.1 c.if-self.false)

pub returns-in_err-happen-clause-long : goal.returns-in_err-happen-clause-long
returns-in_err-happen-clause-long c = λ envelopes items told.
    let why = c.in_err-happen.field-0.0 in
    let passed = too-long why envelopes items (handed_on c.from_residual-in_err-happen.result _ _ c.from_residual-in_err-happen.ensures.1 told) in
    let past = (c.in_err-happen.ensures {u = tt}).long envelopes items (ap Err passed) in
    subst (λ (r : RunOf). WouldReach (world_of r) c.args.e envelopes items) c.self.view_is
    (would-reach c.self.inside.roster c.self.inside.parts c.self.inside.events.items c.args.e envelopes items c.self.invariant.0 (c.self.invariant.1 c.if-self.false) past)

pub invariant_of-self-2 : goal.invariant_of-self-2
invariant_of-self-2 c =
    let plan = c.self.inside.roster in
    let events = (c.in-Ok.ensures {u = tt}).items ∙ ap (λ (es : List Event). es ++ c.args.e ∷ []) c.reserve.ensures.items in (
      c.self.invariant.0,
      λ live. subst (λ (es : List Event). StandsForWorld plan c.happen.new.parts (run plan es)) (sym events)
          (next-stands plan c.self.inside.parts c.happen.new.parts c.self.inside.events.items c.args.e c.self.invariant.0 (c.self.invariant.1 c.if-self.false) (c.in_ok-happen.ensures {u = tt}).ok),
    )

pub returns-clause-within : goal.returns-clause-within
returns-clause-within c =
    let plan = c.self.inside.roster in
    let events = c.self.inside.events.items in
    let here = run-stands plan c.self.inside.parts events c.self.invariant.0 (c.self.invariant.1 c.if-self.false) in
    subst (λ (r : RunOf). passes_limit (world_of r) c.args.e ≡ false) c.self.view_is ((c.in_ok-happen.ensures {u = tt}).ok.within (run plan events) (1 + length events) here)

pub returns-clause-keeps : goal.returns-clause-keeps
returns-clause-keeps c = promises-kept _ _ c.self.invariant.0.checked

pub returns-clause-step : goal.returns-clause-step
returns-clause-step c =
    subst (λ (r : RunOf). IsSafeStep (world_of r) c.args.e) c.self.view_is (next-safe c.self.inside.roster c.self.inside.events.items c.args.e c.self.invariant.0.checked)
