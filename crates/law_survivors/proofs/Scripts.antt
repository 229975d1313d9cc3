-- A live run of a script crashes nobody whom the script spares.
use Rattle.std.proofs.Common.{◌≡◌, ℕ, zero, suc, ◌-◌, Bool, true, false, not, ◌==◌, List, [], ◌∷◌, ◌++◌, flat_map, refl, subst, Some, None}
use Rattle.dpc_lists.specs.Lists.{nth, list_all}
use Rattle.dpc_model.specs.declared.messages.Event.{Event}
use Rattle.dpc_model.specs.declared.messages.Event.TheVariants.{Phase, Emit, Release, Cut, Heal, Crash, Restart, Deliver, Tick, Mill}
use Rattle.dpc_model.specs.declared.scripts.Directive.{Directive}
use Rattle.dpc_model.specs.declared.scripts.Directive.TheVariants as directive
use Rattle.dpc_model.specs.declared.scripts.Phase.{Phase as PhaseSpec}
use Rattle.dpc_model.specs.declared.scripts.Script.{Script}
use Rattle.world_model.specs.Worlds.{World}
use Rattle.world_model.specs.Schedules.{phase_of, event_of, has_event, Progress, first_progress, next_progress, same_event, may_follow, follows_from, is_live_so_far}
use Rattle.dpc_lists.proofs.Truths.{both, both-of, all-part, all-drop, eq-of}
use Rattle.law_survivors.specs.Spared.{spares, spares_at, is_spared}

-- ---- lists

pub all-parts : {X : Type 0} (q : X → Bool) (xs ys : List X) → list_all q (xs ++ ys) ≡ true → (list_all q xs ≡ true) × (list_all q ys ≡ true)
all-parts q [] ys h = (refl, h)
all-parts q (x ∷ xs) ys h =
    let p = both (q x) (list_all q (xs ++ ys)) h in
    let r = all-parts q xs ys p.1 in (both-of (q x) (list_all q xs) p.0 r.0, r.1)

-- the directives of a phase, or of none
phase-spares : (a : ℕ) (d : PhaseSpec) (phases : List PhaseSpec) (i : ℕ) → list_all (spares a) d.directives ≡ true → list_all (spares a) (flat_map (λ (p : PhaseSpec). p.directives) phases) ≡ true → list_all (spares a) (nth d phases i).directives ≡ true
phase-spares a d [] i none h = none
phase-spares a d (p ∷ phases) zero none h = (all-parts (spares a) p.directives (flat_map (λ (z : PhaseSpec). z.directives) phases) h).0
phase-spares a d (p ∷ phases) (suc i) none h = phase-spares a d phases i none (all-parts (spares a) p.directives (flat_map (λ (z : PhaseSpec). z.directives) phases) h).1

-- ---- a journal

-- the directive of a crash is of the same actor
crash-spares : (w : World) (a c : ℕ) (d : Directive) → spares a d ≡ true → (elim (event_of w d) as (λ _. Bool) [ None ↦ false | Some f ↦ same_event f (Crash c) ]) ≡ true → spares_at a (Crash c) ≡ true
crash-spares w a c (directive.Emit s t) h e = cc
crash-spares w a c (directive.Release s t) h e = cc
crash-spares w a c (directive.Cut b z) h e = cc
crash-spares w a c (directive.Heal b z) h e = cc
crash-spares w a c (directive.Lose b z) h e = cc
crash-spares w a c (directive.Repeat b z) h e = cc
crash-spares w a c (directive.Crash b) h e = subst (λ (z : ℕ). not (z == a) ≡ true) (eq-of b c e) h
crash-spares w a c (directive.Restart b) h e = cc

next-spares : (w : World) (a c : ℕ) (todo : List Directive) → list_all (spares a) todo ≡ true → (elim todo as (λ _. Bool) [ [] ↦ false | ◌∷◌ d rest ↦ elim (event_of w d) [ None ↦ false | Some f ↦ same_event f (Crash c) ] ]) ≡ true → spares_at a (Crash c) ≡ true
next-spares w a c [] h e = cc
next-spares w a c (d ∷ rest) h e = crash-spares w a c d (both (spares a d) (list_all (spares a) rest) h).0 e

module _ (script : Script) (a : ℕ) (spared : is_spared script a ≡ true) where
  follows-spares : (x : Progress) (e : Event) → list_all (spares a) x.todo ≡ true → may_follow script x e ≡ true → spares_at a e ≡ true
  follows-spares x (Crash c) todo may = next-spares x.world a c x.todo todo may
  follows-spares x (Phase p) todo may = refl
  follows-spares x (Emit s t) todo may = refl
  follows-spares x (Release s t) todo may = refl
  follows-spares x (Cut b c) todo may = refl
  follows-spares x (Heal b c) todo may = refl
  follows-spares x (Restart b i) todo may = refl
  follows-spares x (Deliver k) todo may = refl
  follows-spares x (Tick b now) todo may = refl
  follows-spares x (Mill b r) todo may = refl

  -- nor does a directive that is still to come
  todo-next : (x : Progress) (e : Event) → list_all (spares a) x.todo ≡ true → list_all (spares a) (next_progress script x e).todo ≡ true
  todo-next x (Phase p) todo = all-part (spares a) has_event (phase_of script p).directives (phase-spares a _ script.phases (p - 1) refl spared)
  todo-next x (Deliver k) todo = todo
  todo-next x (Tick b now) todo = todo
  todo-next x (Mill b r) todo = todo
  todo-next x (Emit s t) todo = all-drop (spares a) 1 x.todo todo
  todo-next x (Release s t) todo = all-drop (spares a) 1 x.todo todo
  todo-next x (Cut b c) todo = all-drop (spares a) 1 x.todo todo
  todo-next x (Heal b c) todo = all-drop (spares a) 1 x.todo todo
  todo-next x (Crash b) todo = all-drop (spares a) 1 x.todo todo
  todo-next x (Restart b i) todo = all-drop (spares a) 1 x.todo todo

  journal-spares : (x : Progress) (events : List Event) → list_all (spares a) x.todo ≡ true → follows_from script x events ≡ true → list_all (spares_at a) events ≡ true
  journal-spares x [] todo live = refl
  journal-spares x (e ∷ events) todo live =
      let k = both (may_follow script x e) (follows_from script (next_progress script x e) events) live in
      both-of (spares_at a e) (list_all (spares_at a) events) (follows-spares x e todo k.0) (journal-spares (next_progress script x e) events (todo-next x e todo) k.1)

  pub live-spares : (events : List Event) → is_live_so_far script events ≡ true → list_all (spares_at a) events ≡ true
  unfolding is_live_so_far
  live-spares events live = journal-spares (first_progress script) events refl live
