-- What a full phase brings about: P holds until Q does, and the phase is not complete before.
use Rattle.std.proofs.Common.{◌≡◌, ℕ, ◌+◌, ◌<◌, Bool, true, false, not, ◌&&◌, ◌||◌, ◌==◌, List, [], ◌∷◌, length, refl, sym, ap, subst, arith, ◌⊎◌, inl, inr}
use Rattle.dpc_lists.specs.Lists.{list_all, has}
use Rattle.dpc_model.specs.Actors.{roles_of}
use Rattle.dpc_model.specs.declared.messages.Event.{Event}
use Rattle.dpc_model.specs.declared.messages.Event.TheVariants.{Phase, Emit, Release, Cut, Heal, Crash, Restart, Deliver, Tick, Mill}
use Rattle.dpc_model.specs.declared.scripts.Script.{Script}
use Rattle.dpc_model.specs.declared.scripts.Directive.{Directive}
use Rattle.world_model.specs.Worlds.{is_up}
use Rattle.world_model.specs.Schedules.{Undelivered, Progress, next_progress, progress_from, follows_from, may_follow, pending_in, is_phase_complete, phase_of, newly_sent}
use Rattle.dpc_lists.proofs.Truths.{both, eq-of, in-range}
use Rattle.world_model.specs.Events.{is_quiet, is_tick, is_delivery}
use Rattle.law_settling.specs.Phased.{IsFull, opened}
use Rattle.law_settling.proofs.Splitting.{IsQuietAt, no-directives}
use Rattle.law_settling.proofs.Waitings.{waits, is_due, due-on, comes, done-of, none-due, becomes-due, any-append}

-- an event of a quiet phase that may come, where the states before and after it are good
pub record MayGo (script : Script) (Good : Progress → Type 0) (x : Progress) (e : Event) : Type 0 where
  pub quiet : is_quiet e ≡ true
  pub may : may_follow script x e ≡ true
  pub here : Good x
  pub next : Good (next_progress script x e)

-- what holds stays, whatever comes
abbrev pub Keeps : Script → (Progress → Type 0) → (Progress → Type 0) → Type 0
Keeps script Good Q = (x : Progress) (e : Event) → MayGo script Good x e → Q x → Q (next_progress script x e)

-- every state of a phase is good
abbrev pub GoodThrough : Script → (Progress → Type 0) → Progress → List Event → Type 0
GoodThrough script Good x [] = Good x
GoodThrough script Good x (e ∷ es) = Good x × GoodThrough script Good (next_progress script x e) es

-- a full phase of good states
pub record IsGoodPhase (script : Script) (Good : Progress → Type 0) (x : Progress) (es : List Event) : Type 0 where
  pub full : IsFull script x es
  pub good : GoodThrough script Good x es

pub first-good : (script : Script) (Good : Progress → Type 0) (x : Progress) (es : List Event) → GoodThrough script Good x es → Good x
first-good script Good x [] h = h
first-good script Good x (e ∷ es) h = h.0

pub last-good : (script : Script) (Good : Progress → Type 0) (x : Progress) (es : List Event) → GoodThrough script Good x es → Good (progress_from script x es)
last-good script Good x [] h = h
last-good script Good x (e ∷ es) h = last-good script Good (next_progress script x e) es h.1

pub kept-through : (script : Script) (Good Q : Progress → Type 0) → Keeps script Good Q → (x : Progress) (es : List Event) → list_all is_quiet es ≡ true → follows_from script x es ≡ true → GoodThrough script Good x es → Q x → Q (progress_from script x es)
kept-through script Good Q keeps x [] quiet follows good h = h
kept-through script Good Q keeps x (e ∷ es) quiet follows good h =
    let q = both (is_quiet e) (list_all is_quiet es) quiet in
    let f = both (may_follow script x e) (follows_from script (next_progress script x e) es) follows in
    let next = first-good script Good (next_progress script x e) es good.1 in
    kept-through script Good Q keeps (next_progress script x e) es q.1 f.1 good.1 (keeps x e (record { quiet = q.0; may = f.0; here = good.0; next = next }) h)

pub kept-full : (script : Script) (Good Q : Progress → Type 0) → Keeps script Good Q → (x : Progress) (es : List Event) → IsGoodPhase script Good x es → Q x → Q (progress_from script x es)
kept-full script Good Q keeps x es phase h = kept-through script Good Q keeps x es phase.full.quiet phase.full.follows phase.good h

-- P until Q, and then Q for good: either is kept
or-kept : (script : Script) (Good P Q : Progress → Type 0) → ((x : Progress) (e : Event) → MayGo script Good x e → P x → P (next_progress script x e) ⊎ Q (next_progress script x e)) → Keeps script Good Q →
    Keeps script Good (λ x. P x ⊎ Q x)
or-kept script Good P Q until keeps x e may (inl p) = until x e may p
or-kept script Good P Q until keeps x e may (inr q) = inr (keeps x e may q)

-- ---- the delivery of an envelope

-- P holds until envelope k is delivered, which brings Q about
pub record IsTaken (script : Script) (Good : Progress → Type 0) (k : ℕ) (P Q : Progress → Type 0) : Type 0 where
  pub others : (x : Progress) (e : Event) → MayGo script Good x e → is_delivery k e ≡ false → P x → P (next_progress script x e) ⊎ Q (next_progress script x e)
  pub taken : (x : Progress) → MayGo script Good x (Deliver k) → P x → Q (next_progress script x (Deliver k))
  pub keeps : Keeps script Good Q
  pub can : (x : Progress) → Good x → P x → comes x.world k ≡ true
  pub at : (x : Progress) → Good x → IsQuietAt script x

pub same-delivery : (k : ℕ) (e : Event) → is_quiet e ≡ true → is_delivery k e ≡ true → e ≡ Deliver k
same-delivery k (Phase p) q d = cc
same-delivery k (Emit s t) q d = cc
same-delivery k (Release s t) q d = cc
same-delivery k (Cut a b) q d = cc
same-delivery k (Heal a b) q d = cc
same-delivery k (Crash a) q d = cc
same-delivery k (Restart a i) q d = cc
same-delivery k (Deliver j) q d = ap Deliver (eq-of j k d)
same-delivery k (Tick a now) q d = cc
same-delivery k (Mill a r) q d = cc

until-due : (script : Script) (Good : Progress → Type 0) (k : ℕ) (P Q : Progress → Type 0) → IsTaken script Good k P Q → (x : Progress) (e : Event) → MayGo script Good x e →
    P x × (is_due k x.waiting ≡ true) → (P (next_progress script x e) × (is_due k (next_progress script x e).waiting ≡ true)) ⊎ Q (next_progress script x e)
until-due script Good k P Q t x e may h =
    (elim (is_delivery k e) as (λ b. is_delivery k e ≡ b → (P (next_progress script x e) × (is_due k (next_progress script x e).waiting ≡ true)) ⊎ Q (next_progress script x e)) [
      | true ↦ λ d.
          let same = same-delivery k e may.quiet d in
          inr (subst (λ (f : Event). Q (next_progress script x f)) (sym same) (t.taken x (subst (MayGo script Good x) same may) h.0))
      | false ↦ λ d. elim (t.others x e may d h.0) [
        | inl p ↦ inl (p, due-on script x e k may.quiet d h.1)
        | inr q ↦ inr q
      ]
    ]) refl

pub some-phase : (script : Script) (x : Progress) → IsQuietAt script x → (x.phase == 0) ≡ false
some-phase script x h = let p = h.phase in by-test (x.phase == 0) refl
  where
    by-test : (b : Bool) → (x.phase == 0) ≡ b → (x.phase == 0) ≡ false
    by-test false e = e
    by-test true e = let none = eq-of x.phase 0 e in let p = h.phase in absurd (omega (arith, none, p))

-- a pending envelope is delivered in the phase
pub due-taken : (script : Script) (Good : Progress → Type 0) (k : ℕ) (P Q : Progress → Type 0) → IsTaken script Good k P Q → (x : Progress) (es : List Event) → IsGoodPhase script Good x es → P x → is_due k x.waiting ≡ true → Q (progress_from script x es)
due-taken script Good k P Q t x es phase p due =
    let y = progress_from script x es in
    let good = last-good script Good x es phase.good in
    elim (kept-full script Good (λ z. (P z × (is_due k z.waiting ≡ true)) ⊎ Q z)
    (or-kept script Good (λ z. P z × (is_due k z.waiting ≡ true)) Q (until-due script Good k P Q t) t.keeps) x es phase (inl (p, due))) [
      | inl left ↦ absurd (none-due y.world k y.waiting (t.can y good left.0) (done-of y (some-phase script y (t.at y good)) phase.full.complete).delivered left.1)
      | inr q ↦ q
    ]

-- what waits at the end of a phase is pending in the next one
pub opened-due : (script : Script) (x : Progress) (k : ℕ) → IsQuietAt script x → is_phase_complete x ≡ true → comes x.world k ≡ true → waits k x.waiting ≡ true → is_due k (opened script x).waiting ≡ true
opened-due script x k at complete can waiting =
    let p = at.phase in
    let none = no-directives script x.phase (omega (arith, p)) in
    let due = becomes-due x.world k x.waiting can (done-of x (some-phase script x at) complete).delivered waiting in
    any-append (λ (y : Undelivered). y.number == k && y.pending) (pending_in x.world (phase_of script (x.phase + 1)).directives x.waiting) (newly_sent x.world x.world)
    (subst (λ (ds : List Directive). is_due k (pending_in x.world ds x.waiting) ≡ true) (sym none) due)

-- ---- the tick of an actor

-- P holds until actor a ticks, which brings Q about
pub record IsTicked (script : Script) (Good : Progress → Type 0) (a : ℕ) (P Q : Progress → Type 0) : Type 0 where
  pub others : (x : Progress) (e : Event) → MayGo script Good x e → is_tick a e ≡ false → P x → P (next_progress script x e) ⊎ Q (next_progress script x e)
  pub ticked : (x : Progress) (now : ℕ) → MayGo script Good x (Tick a now) → P x → Q (next_progress script x (Tick a now))
  pub keeps : Keeps script Good Q
  pub up : (x : Progress) → Good x → is_up x.world a ≡ true
  pub there : (x : Progress) → Good x → a < length (roles_of x.world.plan)
  pub at : (x : Progress) → Good x → IsQuietAt script x

pub same-tick : (a : ℕ) (e : Event) → is_quiet e ≡ true → is_tick a e ≡ true → (now : ℕ) × (e ≡ Tick a now)
same-tick a (Phase p) q d = cc
same-tick a (Emit s t) q d = cc
same-tick a (Release s t) q d = cc
same-tick a (Cut b c) q d = cc
same-tick a (Heal b c) q d = cc
same-tick a (Crash b) q d = cc
same-tick a (Restart b i) q d = cc
same-tick a (Deliver j) q d = cc
same-tick a (Tick b now) q d = (now, ap (λ (c : ℕ). Tick c now) (eq-of b a d))
same-tick a (Mill b r) q d = cc

unticked-on : (script : Script) (x : Progress) (e : Event) (a : ℕ) → is_quiet e ≡ true → is_tick a e ≡ false → has x.ticked a ≡ false → has (next_progress script x e).ticked a ≡ false
unticked-on script x (Phase p) a q d h = cc
unticked-on script x (Emit s t) a q d h = cc
unticked-on script x (Release s t) a q d h = cc
unticked-on script x (Cut b c) a q d h = cc
unticked-on script x (Heal b c) a q d h = cc
unticked-on script x (Crash b) a q d h = cc
unticked-on script x (Restart b i) a q d h = cc
unticked-on script x (Deliver j) a q d h = h
unticked-on script x (Tick b now) a q d h = rw d h
unticked-on script x (Mill b r) a q d h = h

until-tick : (script : Script) (Good : Progress → Type 0) (a : ℕ) (P Q : Progress → Type 0) → IsTicked script Good a P Q → (x : Progress) (e : Event) → MayGo script Good x e →
    P x × (has x.ticked a ≡ false) → (P (next_progress script x e) × (has (next_progress script x e).ticked a ≡ false)) ⊎ Q (next_progress script x e)
until-tick script Good a P Q t x e may h =
    (elim (is_tick a e) as (λ b. is_tick a e ≡ b → (P (next_progress script x e) × (has (next_progress script x e).ticked a ≡ false)) ⊎ Q (next_progress script x e)) [
      | true ↦ λ d.
          let same = same-tick a e may.quiet d in
          inr (subst (λ (f : Event). Q (next_progress script x f)) (sym same.1) (t.ticked x same.0 (subst (MayGo script Good x) same.1 may) h.0))
      | false ↦ λ d. elim (t.others x e may d h.0) [
        | inl p ↦ inl (p, unticked-on script x e a may.quiet d h.1)
        | inr q ↦ inr q
      ]
    ]) refl

-- an actor that did not tick in the phase ticks in it
pub tick-due : (script : Script) (Good : Progress → Type 0) (a : ℕ) (P Q : Progress → Type 0) → IsTicked script Good a P Q → (x : Progress) (es : List Event) → IsGoodPhase script Good x es → P x → has x.ticked a ≡ false → Q (progress_from script x es)
tick-due script Good a P Q t x es phase p waiting =
    let y = progress_from script x es in
    let good = last-good script Good x es phase.good in
    elim (kept-full script Good (λ z. (P z × (has z.ticked a ≡ false)) ⊎ Q z) (or-kept script Good (λ z. P z × (has z.ticked a ≡ false)) Q (until-tick script Good a P Q t) t.keeps) x es phase (inl (p, waiting))) [
      | inl left ↦
          let done = done-of y (some-phase script y (t.at y good)) phase.full.complete in
          let here : (not (is_up y.world a) || has y.ticked a) ≡ true = in-range (λ b. not (is_up y.world b) || has y.ticked b) 0 (length (roles_of y.world.plan)) a done.ticked (omega arith) (let there = t.there y good in omega (arith, there)) in
          let up = t.up y good in
          let none = left.1 in
          let no : false ≡ true = rw (up, none) at here in cc
      | inr q ↦ q
    ]
