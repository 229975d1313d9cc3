-- The one-thread run is told the same.
use Rattle.std.proofs.Common.{◌≡◌, ℕ, zero, suc, ◌+◌, ◌-◌, Bool, true, false, List, [], ◌∷◌, length, refl, ap, ◌∙◌, Option, Some, None}
use Rattle.std.specs.Prelude.{fold, reverse, if◌then◌else◌}
use Rattle.dpc_lists.specs.Lists.{range_with_len}
use Rattle.dpc_model.specs.declared.messages.Event.{Event}
use Rattle.dpc_model.specs.declared.messages.Event.TheVariants.{Phase}
use Rattle.dpc_model.specs.declared.scripts.Directive.{Directive}
use Rattle.dpc_model.specs.declared.scripts.Phase.{Phase as PhaseSpec}
use Rattle.dpc_model.specs.declared.scripts.Script.{Script}
use Rattle.dpc_model.specs.ScriptText.{upgraded}
use Rattle.node_model.specs.Nodes.{ready}
use Rattle.world_model.specs.Worlds.{World, new_world, all_settled}
use Rattle.world_model.specs.Schedules.{Told, event_of, tell, tell_all, tell_directive, phase_events, tell_phase, tell_phases, tell_quiet, tell_rest, lockstep, lockstep_journal, quiet_limit, last_clock}
use Rattle.law_upgrade.specs.Upgrading.{upgraded_world, upgraded_told}
use Rattle.law_upgrade.proofs.Events.{happens-same, opening-same}

-- ---- events

tell-same : (x : Told) (e : Event) → tell (upgraded_told x) e ≡ upgraded_told (tell x e)
tell-same x e = ap (λ (w : World). record { world = w; events = e ∷ x.events }) (happens-same x.world e)

tell-all-same : (x : Told) (es : List Event) → tell_all (upgraded_told x) es ≡ upgraded_told (tell_all x es)
tell-all-same x [] = refl
tell-all-same x (e ∷ es) = ap (λ (y : Told). tell_all y es) (tell-same x e) ∙ tell-all-same (tell x e) es

directive-same : (x : Told) (d : Directive) → tell_directive (upgraded_told x) d ≡ upgraded_told (tell_directive x d)
directive-same x d = by-event (event_of x.world d)
  where
    by-event : (o : Option Event) → elim o as (λ _. Told) [ None ↦ upgraded_told x | Some e ↦ tell (upgraded_told x) e ] ≡ upgraded_told (elim o as (λ _. Told) [ None ↦ x | Some e ↦ tell x e ])
    by-event None = refl
    by-event (Some e) = tell-same x e

directives-same : (x : Told) (ds : List Directive) → fold tell_directive (upgraded_told x) ds ≡ upgraded_told (fold tell_directive x ds)
directives-same x [] = refl
directives-same x (d ∷ ds) = ap (λ (y : Told). fold tell_directive y ds) (directive-same x d) ∙ directives-same (tell_directive x d) ds

-- ---- phases

events-same : (w : World) (ds : List Directive) (pending : List ℕ) (now : ℕ) → phase_events (upgraded_world w) ds pending now ≡ phase_events w ds pending now
unfolding ready
events-same w ds pending now = refl

phase-same : (p first : ℕ) (ds : List Directive) (now : ℕ) (x : Told) → tell_phase p first ds now (upgraded_told x) ≡ upgraded_told (tell_phase p first ds now x)
phase-same p first ds now x =
    ap (λ (y : Told). tell_all y (phase_events y.world ds pending now)) (directives-same (tell x (Phase p)) ds)
    ∙ ap (λ (es : List Event). tell_all (upgraded_told done) es) (events-same done.world ds pending now)
    ∙ tell-all-same done (phase_events done.world ds pending now)
  where
    pending : List ℕ
    pending = range_with_len first (length x.world.envelopes - first)

    done : Told
    done = fold tell_directive (tell x (Phase p)) ds

phases-same : (p first : ℕ) (specs : List PhaseSpec) (x : Told) → tell_phases p first specs (upgraded_told x) ≡ ((tell_phases p first specs x).0, upgraded_told (tell_phases p first specs x).1)
phases-same p first [] x = refl
phases-same p first (spec ∷ specs) x =
    ap (λ (y : Told). tell_phases (p + 1) (length x.world.envelopes) specs y) (phase-same p first spec.directives spec.now x)
    ∙ phases-same (p + 1) (length x.world.envelopes) specs (tell_phase p first spec.directives spec.now x)

quiet-same : (most p first now : ℕ) (x : Told) → tell_quiet most p first now (upgraded_told x) ≡ upgraded_told (tell_quiet most p first now x)
quiet-same zero p first now x = refl
quiet-same (suc most) p first now x =
    by-settled (all_settled x.world) (ap more (phase-same p first [] now x) ∙ quiet-same most (p + 1) (length x.world.envelopes) (now + 1) (tell_phase p first [] now x))
  where
    more : Told → Told
    more y = tell_quiet most (p + 1) (length x.world.envelopes) (now + 1) y

    by-settled : (b : Bool) → more (tell_phase p first [] now (upgraded_told x)) ≡ upgraded_told (more (tell_phase p first [] now x)) →
        elim b as (λ _. Told) [ true ↦ upgraded_told x | false ↦ more (tell_phase p first [] now (upgraded_told x)) ] ≡ upgraded_told (elim b as (λ _. Told) [ true ↦ x | false ↦ more (tell_phase p first [] now x) ])
    by-settled true e = refl
    by-settled false e = e

rest-same : (s : Script) (x : ℕ × Told) → tell_rest (upgraded s) (x.0, upgraded_told x.1) ≡ upgraded_told (tell_rest s x)
rest-same s x = by-settle s.settle
  where
    quiet : Told → Told
    quiet y = tell_quiet (quiet_limit s.plan) (length s.phases + 1) x.0 (last_clock s + 1) y

    by-settle : (b : Bool) → (if b then quiet (upgraded_told x.1) else upgraded_told x.1) ≡ upgraded_told (if b then quiet x.1 else x.1)
    by-settle true = quiet-same (quiet_limit s.plan) (length s.phases + 1) x.0 (last_clock s + 1) x.1
    by-settle false = refl

-- ---- the whole

lockstep-same : (s : Script) → lockstep (upgraded s) ≡ upgraded_told (lockstep s)
unfolding lockstep
lockstep-same s =
    ap (λ (w : World). tell_rest (upgraded s) (tell_phases 1 0 s.phases (record { world = w; events = [] }))) (opening-same s.plan)
    ∙ ap (λ (x : ℕ × Told). tell_rest (upgraded s) x) (phases-same 1 0 s.phases (record { world = new_world s.plan; events = [] }))
    ∙ rest-same s (tell_phases 1 0 s.phases (record { world = new_world s.plan; events = [] }))

pub lock-same : (s : Script) → lockstep_journal (upgraded s) ≡ lockstep_journal s
unfolding lockstep_journal
lock-same s = ap (λ (x : Told). reverse x.events) (lockstep-same s)
