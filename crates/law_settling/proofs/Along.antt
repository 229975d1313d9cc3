-- A whole live run: what is known at each event past the script's phases, and past the first quiet ones of a steady run.
use Rattle.std.proofs.Common.{◌≡◌, ℕ, ◌+◌, ◌<◌, ◌≤◌, true, false, List, [], ◌∷◌, ◌++◌, length, refl, sym, ap, subst, ◌∙◌, arith, ◌⊎◌, inl, inr, nat_lt}
use Rattle.std.specs.Prelude.{IsSome, All}
use Rattle.std.proofs.lemmas.List.{append-nil, append_assoc}
use Rattle.std.proofs.lemmas.List.Elements.{All-head, All-tail}
use Rattle.std.proofs.lemmas.Option.{unwrap_or-slice_get}
use Rattle.dpc_lists.specs.Lists.{list_all}
use Rattle.dpc_model.specs.declared.messages.Event.{Event}
use Rattle.dpc_model.specs.declared.messages.Event.TheVariants.{Phase, Emit, Release, Cut, Heal, Crash, Restart, Deliver, Tick, Mill}
use Rattle.dpc_model.specs.declared.plans.Plan.{Plan}
use Rattle.dpc_model.specs.declared.scripts.Script.{Script}
use Rattle.node_model.specs.Sources.{SourceState}
use Rattle.world_model.specs.Worlds.{World, Slot, source_at, no_source, happens, run_from, run, new_world}
use Rattle.world_model.specs.Schedules.{Progress, first_progress, next_progress, progress_from, progress, may_follow, may, is_live_so_far, settling_phases}
use Rattle.world_model.specs.Steady.{NoneRecovers, TickIsHeard, phase_at, SteadyFrom, IsSteady, IsOpen, OpensWell}
use Rattle.dpc_lists.proofs.Truths.{both-of, lt-of, not-lt}
use Rattle.world_model.proofs.Running.{progress-next, first-phase}
use Rattle.law_schedules.proofs.Journals.{progress-run, each-may, prefix-live}
use Rattle.world_model.specs.Events.{is_quiet}
use Rattle.law_safety.proofs.Growing.{run-plan}
use Rattle.law_settling.specs.Phased.{opened}
use Rattle.law_settling.proofs.Splitting.{IsQuietAt, stays, in-quiet, quiet-goes, opened-quiet}
use Rattle.law_settling.proofs.Opening.{has_node, IsAllUp, quiet-up}
use Rattle.law_settling.proofs.Logs.{quiet-log, event-many}

-- every source has released its whole log, every link and node is up, and no directive is left
pub record IsStanding (script : Script) (x : Progress) : Type 0 where
  pub at : IsQuietAt script x
  pub up : IsAllUp x.world
  pub whole : (s : ℕ) → s < length x.world.sources → (source_at x.world s).bound ≡ script.plan.end

-- so it is at a state of a live journal
pub record IsRunning (script : Script) (x : Progress) : Type 0 where
  pub events : List Event
  pub is : x ≡ progress script events
  pub live : is_live_so_far script events ≡ true
  pub standing : IsStanding script x

-- ---- every prefix of a journal

pub every-behind : (events before : List Event) (I : List Event → Type 0) → I before → ((done rest : List Event) (e : Event) → events ≡ done ++ e ∷ rest → I done → I (done ++ e ∷ [])) → (mid rest : List Event) → events ≡ before ++ (mid ++ rest) → I (before ++ mid)
every-behind events before I h step [] rest e = subst I (sym (append-nil before)) h
every-behind events before I h step (x ∷ mid) rest e =
    subst I (append_assoc before (x ∷ []) mid) (every-behind events (before ++ x ∷ []) I (step before (mid ++ rest) x e h) step mid rest (e ∙ sym (append_assoc before (x ∷ []) (mid ++ rest))))

pub every-prefix : (events : List Event) (I : List Event → Type 0) → I [] → ((done rest : List Event) (e : Event) → events ≡ done ++ e ∷ rest → I done → I (done ++ e ∷ [])) → (done rest : List Event) → events ≡ done ++ rest → I done
every-prefix events I first step done rest is = every-behind events [] I first step done rest is

pub progress-push : (script : Script) (es : List Event) (e : Event) → progress script (es ++ e ∷ []) ≡ next_progress script (progress script es) e
unfolding progress
progress-push script es e = progress-next script (first_progress script) es e

pub may-follows : (script : Script) (es : List Event) (e : Event) → may script es e ≡ true → may_follow script (progress script es) e ≡ true
unfolding may
may-follows script es e h = h

-- what follows in a live journal
pub live-may : (script : Script) (events done rest : List Event) (e : Event) → is_live_so_far script events ≡ true → events ≡ done ++ e ∷ rest → may_follow script (progress script done) e ≡ true
live-may script events done rest e live is = may-follows script done e (each-may script done e rest (subst (λ (es : List Event). is_live_so_far script es ≡ true) is live))

-- ---- the opening of the quiet phases

slots-have : (slots : List Slot) → All (λ (slot : Slot). IsSome slot.node) slots → list_all has_node slots ≡ true
slots-have [] h = refl
slots-have (slot ∷ slots) h = both-of (has_node slot) (list_all has_node slots) (All-head (λ (slot : Slot). IsSome slot.node) slot slots h) (slots-have slots (All-tail (λ (slot : Slot). IsSome slot.node) slot slots h))

open-up : (w : World) → IsOpen w → IsAllUp w
open-up w h = record { cuts = h.links; up = slots-have w.nodes h.nodes }

open-whole : (w : World) (s : ℕ) → IsOpen w → s < length w.sources → (source_at w s).bound ≡ w.plan.end
open-whole w s h low = ap (λ (y : SourceState). y.bound) (unwrap_or-slice_get w.sources s no_source) ∙ h.sources s no_source low

-- ---- from event to event

standing-quiet : (script : Script) (x : Progress) (e : Event) → is_quiet e ≡ true → IsStanding script x → IsStanding script (next_progress script x e)
standing-quiet script x e quiet h =
    record {
      at = (quiet-goes script x e quiet h.at).0;
      up = quiet-up x.world e quiet h.up;
      whole = λ s low. let many = event-many x.world e in (quiet-log x.world e quiet s).bound ∙ h.whole s (omega (arith, low, many));
    }

standing-opened : (script : Script) (x : Progress) → IsStanding script x → IsStanding script (opened script x)
standing-opened script x h = let phase = h.at.phase in record { at = opened-quiet script x (omega (arith, phase)); up = record { cuts = h.up.cuts; up = h.up.up }; whole = h.whole }

abbrev pub Stands : Script → List Event → Type 0
Stands script done = ((progress script done).phase ≤ length script.phases) ⊎ IsStanding script (progress script done)

first-stands : (script : Script) → Stands script []
unfolding progress
first-stands script = inl (omega arith)

module _ (script : Script) (events : List Event) (live : is_live_so_far script events ≡ true) (well : OpensWell script events) where
  opens-standing : (done rest : List Event) → events ≡ done ++ Phase (length script.phases + 1) ∷ rest → (progress script done).phase ≡ length script.phases → IsStanding script (opened script (progress script done))
  opens-standing done rest is phase =
      let x = progress script done in
      let same = progress-run script done in
      let all = well done rest is in
      let up = subst IsAllUp (sym same) (open-up (run script.plan done) all) in
      let plan = run-plan script.plan done in
      record {
        at = opened-quiet script x (omega (arith, phase));
        up = record { cuts = up.cuts; up = up.up };
        whole = λ s low.
            let low_run : s < length (run script.plan done).sources = subst (λ (w : World). s < length w.sources) same low in
            ap (λ (w : World). (source_at w s).bound) same ∙ open-whole (run script.plan done) s all low_run ∙ ap (λ (z : Plan). z.end) plan;
      }

  stands-next : (done rest : List Event) (e : Event) → events ≡ done ++ e ∷ rest → Stands script done → Stands script (done ++ e ∷ [])
  stands-next done rest e is h =
      let x = progress script done in
      let follows = live-may script events done rest e live is in
      let goal : ((next_progress script x e).phase ≤ length script.phases) ⊎ IsStanding script (next_progress script x e) =
      elim h [
        | inr standing ↦ elim (in-quiet script x e standing.at follows) [
          | inl quiet ↦ inr (standing-quiet script x e quiet standing)
          | inr o ↦ inr (subst (λ (d : Event). IsStanding script (next_progress script x d)) (sym o.0) (standing-opened script x standing))
        ]
        | inl low ↦ elim (stays script x e follows) [
          | inl same ↦ inl (omega (arith, same, low))
          | inr o ↦ (elim (nat_lt x.phase (length script.phases)) as (λ b. nat_lt x.phase (length script.phases) ≡ b → ((next_progress script x e).phase ≤ length script.phases) ⊎ IsStanding script (next_progress script x e)) [
            | true ↦ λ t.
                let less = lt-of x.phase (length script.phases) t in
                let now : (next_progress script x e).phase ≡ x.phase + 1 = ap (λ (d : Event). (next_progress script x d).phase) o.0 in
                inl (omega (arith, now, less))
            | false ↦ λ t.
                let past = not-lt x.phase (length script.phases) t in
                let same : x.phase ≡ length script.phases = omega (arith, past, low) in
                let event : e ≡ Phase (length script.phases + 1) = o.0 ∙ ap (λ (n : ℕ). Phase (n + 1)) same in
                let here : events ≡ done ++ Phase (length script.phases + 1) ∷ rest = is ∙ ap (λ (d : Event). done ++ d ∷ rest) event in
                inr (subst (λ (d : Event). IsStanding script (next_progress script x d)) (sym o.0) (opens-standing done rest here same))
          ]) refl
        ]
      ] in
      subst (λ (y : Progress). (y.phase ≤ length script.phases) ⊎ IsStanding script y) (sym (progress-push script done e)) goal

  pub stands : (done rest : List Event) → events ≡ done ++ rest → Stands script done
  stands done rest is = every-prefix events (Stands script) (first-stands script) (λ before behind e at h. stands-next before behind e at h) done rest is

-- ---- steady runs

abbrev pub phase_after : ℕ → List Event → ℕ
phase_after p [] = p
phase_after p (e ∷ es) = phase_after (phase_at p e) es

pub next-at : (script : Script) (x : Progress) (e : Event) → (next_progress script x e).phase ≡ phase_at x.phase e
next-at script x (Phase p) = refl
next-at script x (Emit s t) = refl
next-at script x (Release s t) = refl
next-at script x (Cut a b) = refl
next-at script x (Heal a b) = refl
next-at script x (Crash a) = refl
next-at script x (Restart a i) = refl
next-at script x (Deliver k) = refl
next-at script x (Tick a now) = refl
next-at script x (Mill a r) = refl

pub phase-from : (script : Script) (x : Progress) (es : List Event) → (progress_from script x es).phase ≡ phase_after x.phase es
phase-from script x [] = refl
phase-from script x (e ∷ es) = phase-from script (next_progress script x e) es ∙ ap (λ (p : ℕ). phase_after p es) (next-at script x e)

pub steady-at : (script : Script) (p : ℕ) (w : World) (done rest : List Event) (e : Event) → SteadyFrom script p w (done ++ e ∷ rest) →
    length script.phases + settling_phases < phase_at (phase_after p done) e → NoneRecovers (happens (run_from w done) e).nodes × TickIsHeard (happens (run_from w done) e) e
steady-at script p w [] rest e h far = h.0 far
steady-at script p w (d ∷ done) rest e h far = steady-at script (phase_at p d) (happens w d) done rest e h.1 far

run-steady : (script : Script) (events done rest : List Event) (e : Event) → IsSteady script events → events ≡ done ++ e ∷ rest → length script.phases + settling_phases < (progress script (done ++ e ∷ [])).phase → NoneRecovers (run script.plan (done ++ e ∷ [])).nodes
unfolding run progress
run-steady script events done rest e steady is far =
    let w = new_world script.plan in
    let phase = phase-from script (first_progress script) (done ++ e ∷ []) ∙ after-push 0 done in
    let h = steady-at script 0 w done rest e (subst (λ (es : List Event). SteadyFrom script 0 w es) is steady) (omega (arith, far, phase)) in
    subst (λ (v : World). NoneRecovers v.nodes) (sym (run-last w done)) h.0
  where
    after-push : (p : ℕ) (es : List Event) → phase_after p (es ++ e ∷ []) ≡ phase_at (phase_after p es) e
    after-push p [] = refl
    after-push p (d ∷ es) = after-push (phase_at p d) es

    run-last : (w : World) (es : List Event) → run_from w (es ++ e ∷ []) ≡ happens (run_from w es) e
    run-last w [] = refl
    run-last w (d ∷ es) = run-last (happens w d) es

-- ---- all together

-- every state past the script's phases
pub running-along : (script : Script) (events : List Event) → is_live_so_far script events ≡ true → OpensWell script events → (done rest : List Event) → events ≡ done ++ rest → length script.phases < (progress script done).phase → IsRunning script (progress script done)
running-along script events live well done rest is far =
    record {
      events = done;
      is = refl;
      live = prefix-live script done rest (subst (λ (es : List Event). is_live_so_far script es ≡ true) is live);
      standing = elim (stands script events live well done rest is) [ inl low ↦ absurd (omega (arith, low, far)) | inr standing ↦ standing ];
    }

-- past the first quiet phases of a steady one no node recovers
pub steady-along : (script : Script) (events : List Event) → IsSteady script events → (done rest : List Event) → events ≡ done ++ rest → length script.phases + settling_phases < (progress script done).phase → NoneRecovers (run script.plan done).nodes
steady-along script events steady es rest at past =
    elim (last-of es) [
      | inl none ↦ absurd (not-first es none past)
      | inr l ↦
          let same = l.2 in
          let here : events ≡ l.0 ++ l.1 ∷ rest = at ∙ ap (λ (zs : List Event). zs ++ rest) same ∙ append_assoc l.0 (l.1 ∷ []) rest in
          subst (λ (zs : List Event). NoneRecovers (run script.plan zs).nodes) (sym same)
          (run-steady script events l.0 rest l.1 steady here (subst (λ (zs : List Event). length script.phases + settling_phases < (progress script zs).phase) same past))
    ]
  where
    last-of : (es : List Event) → (es ≡ []) ⊎ ((before : List Event) × (e : Event) × (es ≡ before ++ e ∷ []))
    last-of [] = inl refl
    last-of (d ∷ es) = elim (last-of es) [
      | inl none ↦ inr ([], d, ap (λ (zs : List Event). d ∷ zs) none)
      | inr l ↦ inr (d ∷ l.0, l.1, ap (λ (zs : List Event). d ∷ zs) l.2)
    ]

    not-first : (es : List Event) → es ≡ [] → length script.phases + settling_phases < (progress script es).phase → ⊥
    not-first es none far =
        let low : length script.phases + settling_phases < (progress script []).phase = subst (λ (zs : List Event). length script.phases + settling_phases < (progress script zs).phase) none far in
        let zero_phase = first-phase script in omega (arith, low, zero_phase)
