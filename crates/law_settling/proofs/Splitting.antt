-- A live journal is cut into full phases.
use Rattle.std.proofs.Common.{◌≡◌, ℕ, ◌+◌, ◌-◌, ◌<◌, ◌≤◌, true, false, ◌&&◌, ◌==◌, nat_lt, List, [], ◌∷◌, ◌++◌, length, refl, ap, subst, ◌∙◌, arith, ◌⊎◌, inl, inr}
use Rattle.std.specs.Prelude.{IsTrue, not}
use Rattle.std.proofs.lemmas.Option.{slice_get_past}
use Rattle.dpc_lists.specs.Lists.{list_all}
use Rattle.dpc_model.specs.declared.messages.Event.{Event}
use Rattle.dpc_model.specs.declared.messages.Event.TheVariants.{Phase, Emit, Release, Cut, Heal, Crash, Restart, Deliver, Tick, Mill}
use Rattle.dpc_model.specs.declared.scripts.Script.{Script}
use Rattle.world_model.specs.Schedules.{Progress, first_progress, next_progress, progress_from, progress, follows_from, may_follow, is_live_so_far, is_live, is_phase_complete, phase_left, phase_of}
use Rattle.dpc_lists.proofs.Truths.{both, both-of, eq-of, lt-of, not-lt}
use Rattle.world_model.proofs.Running.{not-next}
use Rattle.world_model.specs.Events.{is_quiet}
use Rattle.law_settling.specs.Phased.{IsFull, opened, passed_all, ArePhases, events_of}

-- a phase without directives goes on
pub record IsQuietAt (script : Script) (x : Progress) : Type 0 where
  pub todo : x.todo ≡ []
  pub phase : length script.phases < x.phase

-- past the script's phases there are no directives
pub no-directives : (script : Script) (p : ℕ) → length script.phases ≤ p → (phase_of script (p + 1)).directives ≡ []
no-directives script p h =
    let same : p + 1 - 1 ≡ p = omega arith in
    let past = slice_get_past script.phases p h in
    rw (same, past) refl

-- the next phase is quiet where that many were opened
pub opened-quiet : (script : Script) (x : Progress) → length script.phases ≤ x.phase → IsQuietAt script (opened script x)
opened-quiet script x h =
    let none = no-directives script x.phase h in
    record { todo = rw none refl; phase = omega (arith, h) }

-- a quiet event leaves the phase as it was
pub quiet-goes : (script : Script) (x : Progress) (e : Event) → is_quiet e ≡ true → IsQuietAt script x → IsQuietAt script (next_progress script x e) × ((next_progress script x e).phase ≡ x.phase)
quiet-goes script x (Phase p) q h = cc
quiet-goes script x (Emit s t) q h = cc
quiet-goes script x (Release s t) q h = cc
quiet-goes script x (Cut a b) q h = cc
quiet-goes script x (Heal a b) q h = cc
quiet-goes script x (Crash a) q h = cc
quiet-goes script x (Restart a i) q h = cc
quiet-goes script x (Deliver k) q h = (record { todo = h.todo; phase = h.phase }, refl)
quiet-goes script x (Tick a now) q h = (record { todo = h.todo; phase = h.phase }, refl)
quiet-goes script x (Mill a r) q h = (record { todo = h.todo; phase = h.phase }, refl)

-- what an event that may come is: the next phase's first one, or one that leaves the phase
abbrev pub Opens : Progress → Event → Type 0
Opens x e = (e ≡ Phase (x.phase + 1)) × (is_phase_complete x ≡ true)

pub opens : (script : Script) (x : Progress) (p : ℕ) → may_follow script x (Phase p) ≡ true → Opens x (Phase p)
opens script x p h =
    let parts = both (p == x.phase + 1 && is_phase_complete x) (phase_left script x) h in
    let more = both (p == x.phase + 1) (is_phase_complete x) parts.0 in
    let same = eq-of p (x.phase + 1) more.0 in
    (rw same refl, more.1)

pub in-quiet : (script : Script) (x : Progress) (e : Event) → IsQuietAt script x → may_follow script x e ≡ true → (is_quiet e ≡ true) ⊎ Opens x e
in-quiet script x (Phase p) h may = inr (opens script x p may)
in-quiet script x (Emit s t) h may = absurd (not-next x (Emit s t) h.todo may)
in-quiet script x (Release s t) h may = absurd (not-next x (Release s t) h.todo may)
in-quiet script x (Cut a b) h may = absurd (not-next x (Cut a b) h.todo may)
in-quiet script x (Heal a b) h may = absurd (not-next x (Heal a b) h.todo may)
in-quiet script x (Crash a) h may = absurd (not-next x (Crash a) h.todo may)
in-quiet script x (Restart a i) h may = absurd (not-next x (Restart a i) h.todo may)
in-quiet script x (Deliver k) h may = inl refl
in-quiet script x (Tick a now) h may = inl refl
in-quiet script x (Mill a r) h may = inl refl

-- ---- quiet phases

-- the rest of a phase, and the phases behind it
pub record IsSplit (script : Script) (x : Progress) (events : List Event) : Type 0 where
  pub here : List Event
  pub rest : List (List Event)
  pub is : events ≡ here ++ events_of x.phase rest
  pub full : IsFull script x here
  pub phases : ArePhases script (progress_from script x here) rest
  pub last : progress_from script x events ≡ passed_all script (progress_from script x here) rest

pub split : (script : Script) (x : Progress) (events : List Event) → IsQuietAt script x → follows_from script x events ≡ true →
    is_phase_complete (progress_from script x events) ≡ true → IsSplit script x events
split script x [] h follows complete =
    record { here = []; rest = []; is = refl; full = record { quiet = refl; follows = refl; complete = complete }; phases = tt; last = refl }
split script x (e ∷ events) h follows complete =
    let f = both (may_follow script x e) (follows_from script (next_progress script x e) events) follows in
    let f_on = f.1 in
    elim (in-quiet script x e h f.0) [
      | inl q ↦
          let next = quiet-goes script x e q h in
          let s = split script (next_progress script x e) events next.0 f_on complete in
          record {
            here = e ∷ s.here;
            rest = s.rest;
            is = ap (λ (es : List Event). e ∷ es) (s.is ∙ ap (λ (p : ℕ). s.here ++ events_of p s.rest) next.1);
            full = record {
              quiet = both-of (is_quiet e) (list_all is_quiet s.here) q s.full.quiet;
              follows = both-of (may_follow script x e) (follows_from script (next_progress script x e) s.here) f.0 s.full.follows;
              complete = s.full.complete;
            };
            phases = s.phases;
            last = s.last;
          }
      | inr o ↦
          let phase = h.phase in
          let quiet = opened-quiet script x (omega (arith, phase)) in
          let follows_on : follows_from script (opened script x) events ≡ true = subst (λ (d : Event). follows_from script (next_progress script x d) events ≡ true) o.0 f_on in
          let complete_on : is_phase_complete (progress_from script (opened script x) events) ≡ true = subst (λ (d : Event). is_phase_complete (progress_from script (next_progress script x d) events) ≡ true) o.0 complete in
          let s = split script (opened script x) events quiet follows_on complete_on in
          record {
            here = [];
            rest = s.here ∷ s.rest;
            is = ap (λ (d : Event). d ∷ events) o.0 ∙ ap (λ (es : List Event). Phase (x.phase + 1) ∷ es) s.is;
            full = record { quiet = refl; follows = refl; complete = o.1 };
            phases = (s.full, s.phases);
            last = ap (λ (d : Event). progress_from script (next_progress script x d) events) o.0 ∙ s.last;
          }
    ]

-- ---- the whole journal

-- where no quiet phase was opened
pub record IsCut (script : Script) (x : Progress) (events : List Event) : Type 0 where
  pub before : List Event
  pub phases : List (List Event)
  pub is : events ≡ before ++ events_of (length script.phases) phases
  pub phase : (progress_from script x before).phase ≡ length script.phases
  pub complete : is_phase_complete (progress_from script x before) ≡ true
  pub full : ArePhases script (progress_from script x before) phases
  pub last : progress_from script x events ≡ passed_all script (progress_from script x before) phases

-- an event that opens no phase leaves the number
pub stays : (script : Script) (x : Progress) (e : Event) → may_follow script x e ≡ true → ((next_progress script x e).phase ≡ x.phase) ⊎ Opens x e
stays script x (Phase p) may = inr (opens script x p may)
stays script x (Emit s t) may = inl refl
stays script x (Release s t) may = inl refl
stays script x (Cut a b) may = inl refl
stays script x (Heal a b) may = inl refl
stays script x (Crash a) may = inl refl
stays script x (Restart a i) may = inl refl
stays script x (Deliver k) may = inl refl
stays script x (Tick a now) may = inl refl
stays script x (Mill a r) may = inl refl

pub cut-at : (script : Script) (x : Progress) (events : List Event) → x.phase ≤ length script.phases → follows_from script x events ≡ true →
    is_phase_complete (progress_from script x events) ≡ true → ((progress_from script x events).phase ≤ length script.phases) ⊎ IsCut script x events
cut-at script x [] h follows complete = inl h
cut-at script x (e ∷ events) h follows complete =
    let f = both (may_follow script x e) (follows_from script (next_progress script x e) events) follows in
    let f_on = f.1 in
    let behind : (next_progress script x e).phase ≤ length script.phases → ((progress_from script x (e ∷ events)).phase ≤ length script.phases) ⊎ IsCut script x (e ∷ events) =
    λ few. elim (cut-at script (next_progress script x e) events few f_on complete) [
      | inl done ↦ inl done
      | inr c ↦ inr (record { before = e ∷ c.before; phases = c.phases; is = ap (λ (es : List Event). e ∷ es) c.is; phase = c.phase; complete = c.complete; full = c.full; last = c.last })
    ] in
    elim (stays script x e f.0) [
      | inl same ↦ behind (omega (arith, same, h))
      | inr o ↦
          (elim (nat_lt x.phase (length script.phases)) as (λ b. nat_lt x.phase (length script.phases) ≡ b → ((progress_from script x (e ∷ events)).phase ≤ length script.phases) ⊎ IsCut script x (e ∷ events)) [
            | true ↦ λ t.
                let few = lt-of x.phase (length script.phases) t in
                let now : (next_progress script x e).phase ≡ x.phase + 1 = ap (λ (d : Event). (next_progress script x d).phase) o.0 in
                behind (omega (arith, now, few))
            | false ↦ λ t.
                let same : x.phase ≡ length script.phases = let past = not-lt x.phase (length script.phases) t in omega (arith, past, h) in
                let quiet = opened-quiet script x (omega (arith, same)) in
                let follows_on : follows_from script (opened script x) events ≡ true = subst (λ (d : Event). follows_from script (next_progress script x d) events ≡ true) o.0 f_on in
                let complete_on : is_phase_complete (progress_from script (opened script x) events) ≡ true = subst (λ (d : Event). is_phase_complete (progress_from script (next_progress script x d) events) ≡ true) o.0 complete in
                let s = split script (opened script x) events quiet follows_on complete_on in
                inr (record {
                  before = [];
                  phases = s.here ∷ s.rest;
                  is = ap (λ (d : Event). d ∷ events) o.0 ∙ ap (λ (es : List Event). Phase (x.phase + 1) ∷ es) s.is ∙ ap (λ (p : ℕ). events_of p (s.here ∷ s.rest)) same;
                  phase = same;
                  complete = o.1;
                  full = (s.full, s.phases);
                  last = ap (λ (d : Event). progress_from script (next_progress script x d) events) o.0 ∙ s.last;
                })
          ]) refl
    ]

pub live-cut : (script : Script) (events : List Event) → IsTrue (is_live script events) →
    ((progress script events).phase ≤ length script.phases)
    ⊎ ((before : List Event) × (phases : List (List Event)) × (events ≡ before ++ events_of (length script.phases) phases)
    × ((progress script before).phase ≡ length script.phases) × ArePhases script (progress script before) phases)
unfolding is_live is_live_so_far progress
live-cut script events live =
    let parts = both (is_live_so_far script events && is_phase_complete (progress script events)) (not (phase_left script (progress script events))) live in
    let more = both (is_live_so_far script events) (is_phase_complete (progress script events)) parts.0 in
    elim (cut-at script (first_progress script) events (omega arith) more.0 more.1) [
      | inl few ↦ inl few
      | inr c ↦ inr (c.before, c.phases, c.is, c.phase, c.full)
    ]
