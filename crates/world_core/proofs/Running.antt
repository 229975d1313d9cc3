-- The world of the events so far is one that the parts stand for, and one event more leads to the next.
use Rattle.std.proofs.Common.{◌≡◌, ℕ, ◌+◌, List, [], ◌∷◌, ◌++◌, length, sym, ap, subst, ◌∙◌, Err, Result}
use Rattle.dpc_model.specs.declared.messages.Event.{Event}
use Rattle.dpc_model.specs.declared.plans.Plan.{Plan}
use Rattle.world_model.specs.Worlds.{World, run, sums_after, WouldReach}
use Rattle.world_model.proofs.Running.{run-push}
use Rattle.law_fit.specs.Fits.{CanRun}
use Rattle.law_fit.proofs.FitWorlds.{run-world}
use Rattle.world_parts.specs.Parts.{WorldPartsValue, StandsForWorld}
use Rattle.world_parts.specs.Events.{IsWorldOf, IsSomeWorld, Happened, WouldPass}
use Rattle.world_parts.specs.declared.faults.EventFault.{EventFault}
use Rattle.world_parts.specs.declared.faults.EventFault.TheVariants as part_fault
use Rattle.world_core.specs.declared.faults.ApplyFault.{ApplyFault}
use Rattle.world_core.specs.declared.faults.ApplyFault.TheVariants as fault
use Rattle.world_core.specs.Runs.{fault_of}

pub run-stands : (plan : Plan) (v : WorldPartsValue) (events : List Event) → CanRun plan → StandsForWorld plan v (run plan events) → IsWorldOf plan v (run plan events) (1 + length events)
run-stands plan v events can h = record { stands = h; fine = run-world plan events can.checked }

pub some-stands : (plan : Plan) (v : WorldPartsValue) (events : List Event) → CanRun plan → StandsForWorld plan v (run plan events) → IsSomeWorld plan v
some-stands plan v events can h = (run plan events, 1 + length events, run-stands plan v events can h)

pub next-stands : (plan : Plan) (old new : WorldPartsValue) (events : List Event) (e : Event) → CanRun plan → StandsForWorld plan old (run plan events) → Happened plan old new e →
    StandsForWorld plan new (run plan (events ++ e ∷ []))
next-stands plan old new events e can h step =
    subst (λ (w : World). StandsForWorld plan new w) (sym (run-push plan events e)) (step.after (run plan events) (1 + length events) (run-stands plan old events can h))

pub would-reach : (plan : Plan) (old : WorldPartsValue) (events : List Event) (e : Event) (envelopes items : ℕ) → CanRun plan → StandsForWorld plan old (run plan events) →
    WouldPass plan old e envelopes items → WouldReach (run plan events) e envelopes items
would-reach plan old events e envelopes items can h past =
    let w = run plan events in
    let most = 1 + length events in
    let here = run-stands plan old events can h in
    record { passes = past.passes w most here; sums = ap (λ n. record { envelopes = n; items = (sums_after w e).items }) (past.envelopes_are w most here) ∙ ap (λ n. record { envelopes = envelopes; items = n }) (past.items_are w most here) }

-- a fault that tells numbers is one of the parts that tells them
pub too-long : (why : EventFault) (envelopes items : ℕ) → ◌≡◌ {A = Result (Unit {0}) ApplyFault} (Err (fault_of why)) (Err (fault.TooLong envelopes items)) →
    why ≡ part_fault.TooLong envelopes items
too-long part_fault.NoMemory envelopes items same = cc
too-long (part_fault.TooLong a b) envelopes items same = cc
