-- In the one-thread journal only ticks and the opening of the next phase stand behind a tick.
use Rattle.std.proofs.Common.{◌≡◌, ℕ, zero, suc, ◌+◌, ◌-◌, ◌/◌, ◌%◌, Bool, true, false, not, cond, ◌&&◌, ◌||◌, ◌==◌, List, [], ◌∷◌, ◌++◌, map, length, refl, sym, ap, subst, ◌∙◌}
use Rattle.std.specs.Prelude.{reverse, fold, replicate, flat_map}
use Rattle.std.specs.List.{filter}
use Rattle.std.proofs.lemmas.Grind.{reverse_onto}
use Rattle.std.proofs.Math.Bool.{or-true}
use Rattle.dpc_lists.specs.Lists.{list_all, range_with_len}
use Rattle.dpc_model.specs.Limits.{most_milled}
use Rattle.dpc_model.specs.declared.messages.Event.{Event}
use Rattle.dpc_model.specs.declared.messages.Event.TheVariants.{Phase, Emit, Release, Cut, Heal, Crash, Restart, Deliver, Tick, Mill}
use Rattle.dpc_model.specs.declared.scripts.Directive.{Directive}
use Rattle.dpc_model.specs.declared.scripts.Directive.TheVariants as directive
use Rattle.dpc_model.specs.declared.scripts.Phase.{Phase as PhaseSpec}
use Rattle.dpc_model.specs.declared.scripts.Script.{Script}
use Rattle.world_model.specs.Worlds.{slot_of, ready_at, is_up, new_world, all_settled}
use Rattle.world_model.specs.Schedules.{Told, tell, tell_all, tell_directive, mill_events, deliveries_of, actors_of, tell_phase, tell_phases, tell_quiet, last_clock, quiet_limit, lockstep, lockstep_journal}
use Rattle.dpc_lists.proofs.Truths.{both, both-of, all-append, not-of}
use Rattle.world_model.specs.Events.{is_phase, is_ticking}
use Rattle.law_schedules.proofs.Doing.{tell-append}

-- what may stand behind a tick
abbrev pub is_late : Event → Bool
is_late e = is_phase e || is_ticking e

-- so it is in a journal; `was` says whether the event before it is a tick
abbrev pub is_tidy : Bool → List Event → Bool
is_tidy was [] = true
is_tidy was (e ∷ es) = (not was || is_late e) && is_tidy (is_ticking e) es

-- whether the last event is a tick
abbrev pub ends_ticking : Bool → List Event → Bool
ends_ticking was [] = was
ends_ticking was (e ∷ es) = ends_ticking (is_ticking e) es

-- ---- one event more

tidy-push : (was : Bool) (es : List Event) (e : Event) → is_tidy was es ≡ true → (not (ends_ticking was es) || is_late e) ≡ true → is_tidy was (es ++ e ∷ []) ≡ true
tidy-push was [] e h k = both-of (not was || is_late e) true k refl
tidy-push was (d ∷ es) e h k =
    let p = both (not was || is_late d) (is_tidy (is_ticking d) es) h in
    both-of (not was || is_late d) (is_tidy (is_ticking d) (es ++ e ∷ [])) p.0 (tidy-push (is_ticking d) es e p.1 k)

pub ends-push : (was : Bool) (es : List Event) (e : Event) → ends_ticking was (es ++ e ∷ []) ≡ is_ticking e
ends-push was [] e = refl
ends-push was (d ∷ es) e = ends-push (is_ticking d) es e

pub tidy-behind : (was : Bool) (done rest : List Event) (e : Event) → is_tidy was (done ++ e ∷ rest) ≡ true → ((not (ends_ticking was done) || is_late e) ≡ true) × (is_tidy (is_ticking e) rest ≡ true)
tidy-behind was [] rest e h = both (not was || is_late e) (is_tidy (is_ticking e) rest) h
tidy-behind was (d ∷ done) rest e h = tidy-behind (is_ticking d) done rest e (both (not was || is_late d) (is_tidy (is_ticking d) (done ++ e ∷ rest)) h).1

-- ---- what is told so far

abbrev Tidy : Told → Type 0
Tidy x = is_tidy false (reverse x.events) ≡ true

-- no tick is its last event
abbrev Free : Told → Type 0
Free x = Tidy x × (ends_ticking false (reverse x.events) ≡ false)

told-last : (es : List Event) (e : Event) → reverse (e ∷ es) ≡ reverse es ++ e ∷ []
told-last es e = reverse_onto es e []

tell-late : (x : Told) (e : Event) → is_late e ≡ true → Tidy x → Tidy (tell x e)
tell-late x e late h =
    ap (λ (l : List Event). is_tidy false l) (told-last x.events e)
    ∙ tidy-push false (reverse x.events) e h (ap (λ (b : Bool). not (ends_ticking false (reverse x.events)) || b) late ∙ or-true (not (ends_ticking false (reverse x.events))))

tell-free : (x : Told) (e : Event) → is_ticking e ≡ false → Free x → Free (tell x e)
tell-free x e none h = (
  ap (λ (l : List Event). is_tidy false l) (told-last x.events e) ∙ tidy-push false (reverse x.events) e h.0 (ap (λ (b : Bool). not b || is_late e) h.1),
  ap (λ (l : List Event). ends_ticking false l) (told-last x.events e) ∙ ends-push false (reverse x.events) e ∙ none,
)

phase-free : (x : Told) (p : ℕ) → Tidy x → Free (tell x (Phase p))
phase-free x p h = (tell-late x (Phase p) refl h, ap (λ (l : List Event). ends_ticking false l) (told-last x.events (Phase p)) ∙ ends-push false (reverse x.events) (Phase p))

directive-free : (x : Told) (d : Directive) → Free x → Free (tell_directive x d)
directive-free x (directive.Emit s t) h = tell-free x (Emit s t) refl h
directive-free x (directive.Release s t) h = tell-free x (Release s t) refl h
directive-free x (directive.Cut a b) h = tell-free x (Cut a b) refl h
directive-free x (directive.Heal a b) h = tell-free x (Heal a b) refl h
directive-free x (directive.Lose a b) h = h
directive-free x (directive.Repeat a b) h = h
directive-free x (directive.Crash a) h = tell-free x (Crash a) refl h
directive-free x (directive.Restart a) h = tell-free x (Restart a ((slot_of x.world a).last_inc + 1)) refl h

directives-free : (ds : List Directive) (x : Told) → Free x → Free (fold tell_directive x ds)
directives-free [] x h = h
directives-free (d ∷ ds) x h = directives-free ds (tell_directive x d) (directive-free x d h)

-- ---- events that are no ticks

abbrev is_before : Event → Bool
is_before e = not (is_ticking e)

all-free : (es : List Event) (x : Told) → list_all is_before es ≡ true → Free x → Free (tell_all x es)
all-free [] x none h = h
all-free (e ∷ es) x none h = let p = both (is_before e) (list_all is_before es) none in all-free es (tell x e) p.1 (tell-free x e (not-of (is_ticking e) p.0) h)

all-same : (n : ℕ) (e : Event) → is_before e ≡ true → list_all is_before (replicate n e) ≡ true
all-same zero e h = refl
all-same (suc n) e h = both-of (is_before e) (list_all is_before (replicate n e)) h (all-same n e h)

all-flat : (f : ℕ → List Event) → ((a : ℕ) → list_all is_before (f a) ≡ true) → (xs : List ℕ) → list_all is_before (flat_map f xs) ≡ true
all-flat f h [] = refl
all-flat f h (a ∷ xs) = all-append is_before (f a) (flat_map f xs) (h a) (all-flat f h xs)

mills-before : (a r : ℕ) → list_all is_before (mill_events a r) ≡ true
mills-before a r = all-append is_before (replicate (r / most_milled) (Mill a most_milled)) (cond (r % most_milled == 0) [] (Mill a (r % most_milled) ∷ [])) (all-same (r / most_milled) (Mill a most_milled) refl) (by-rest (r % most_milled == 0))
  where
    by-rest : (b : Bool) → list_all is_before (cond b [] (Mill a (r % most_milled) ∷ [])) ≡ true
    by-rest true = refl
    by-rest false = refl

-- ---- ticks

ticks-tidy : (now : ℕ) (xs : List ℕ) (x : Told) → Tidy x → Tidy (tell_all x (map (λ a. Tick a now) xs))
ticks-tidy now [] x h = h
ticks-tidy now (a ∷ xs) x h = ticks-tidy now xs (tell x (Tick a now)) (tell-late x (Tick a now) refl h)

-- ---- phases

phase-tidy : (p first : ℕ) (ds : List Directive) (now : ℕ) (x : Told) → Tidy x → Tidy (tell_phase p first ds now x)
phase-tidy p first ds now x h =
    let y = fold tell_directive (tell x (Phase p)) ds in
    let w = y.world in
    let pending = range_with_len first (length x.world.envelopes - first) in
    let milling = flat_map (λ a. mill_events a (ready_at w a)) (actors_of w.plan) in
    let delivering = flat_map (λ k. replicate (deliveries_of w ds k) (Deliver k)) pending in
    let ticking = map (λ a. Tick a now) (filter (is_up w) (actors_of w.plan)) in
    let before : list_all is_before (milling ++ delivering) ≡ true =
    all-append is_before milling delivering (all-flat (λ a. mill_events a (ready_at w a)) (λ a. mills-before a (ready_at w a)) (actors_of w.plan))
    (all-flat (λ k. replicate (deliveries_of w ds k) (Deliver k)) (λ k. all-same (deliveries_of w ds k) (Deliver k) refl) pending) in
    let free = all-free (milling ++ delivering) y before (directives-free ds (tell x (Phase p)) (phase-free x p h)) in
    subst (λ (z : Told). Tidy z) (sym (tell-append y (milling ++ delivering) ticking)) (ticks-tidy now (filter (is_up w) (actors_of w.plan)) (tell_all y (milling ++ delivering)) free.0)

phases-tidy : (specs : List PhaseSpec) (p first : ℕ) (x : Told) → Tidy x → Tidy (tell_phases p first specs x).1
phases-tidy [] p first x h = h
phases-tidy (spec ∷ specs) p first x h = phases-tidy specs (p + 1) (length x.world.envelopes) (tell_phase p first spec.directives spec.now x) (phase-tidy p first spec.directives spec.now x h)

quiet-tidy : (most p first now : ℕ) (x : Told) → Tidy x → Tidy (tell_quiet most p first now x)
quiet-tidy zero p first now x h = h
quiet-tidy (suc most) p first now x h =
    elim (all_settled x.world) as (λ b. Tidy (elim b as (λ _. Told) [ true ↦ x | false ↦ tell_quiet most (p + 1) (length x.world.envelopes) (now + 1) (tell_phase p first [] now x) ])) [
      | true ↦ h
      | false ↦ quiet-tidy most (p + 1) (length x.world.envelopes) (now + 1) (tell_phase p first [] now x) (phase-tidy p first [] now x h)
    ]

told-tidy : (script : Script) → Tidy (lockstep script)
unfolding lockstep
told-tidy script =
    let told = tell_phases 1 0 script.phases (record { world = new_world script.plan; events = [] }) in
    let all : Tidy told.1 = phases-tidy script.phases 1 0 (record { world = new_world script.plan; events = [] }) refl in
    elim script.settle as (λ b. Tidy (cond b (tell_quiet (quiet_limit script.plan) (length script.phases + 1) told.0 (last_clock script + 1) told.1) told.1)) [
      | true ↦ quiet-tidy (quiet_limit script.plan) (length script.phases + 1) told.0 (last_clock script + 1) told.1 all
      | false ↦ all
    ]

pub lock-tidy : (script : Script) → is_tidy false (lockstep_journal script) ≡ true
unfolding lockstep_journal
lock-tidy script = told-tidy script
