-- A live run of a script that crashes nobody has no crash.
use Rattle.std.proofs.Common.{◌≡◌, ℕ, zero, suc, ◌-◌, Bool, true, false, List, [], ◌∷◌, ◌++◌, flat_map, refl, ap, subst, ◌∙◌, Some, None}
use Rattle.std.proofs.lemmas.List.{append_assoc}
use Rattle.dpc_lists.specs.Lists.{nth, list_all}
use Rattle.dpc_model.specs.declared.messages.Event.{Event}
use Rattle.dpc_model.specs.declared.messages.Event.TheVariants.{Phase, Emit, Release, Cut, Heal, Crash, Restart, Deliver, Tick, Mill}
use Rattle.dpc_model.specs.declared.scripts.Directive.{Directive}
use Rattle.dpc_model.specs.declared.scripts.Directive.TheVariants as directive
use Rattle.dpc_model.specs.declared.scripts.Phase.{Phase as PhaseSpec}
use Rattle.dpc_model.specs.declared.scripts.Script.{Script}
use Rattle.world_model.specs.Worlds.{World, run, new_world}
use Rattle.world_model.specs.Schedules.{phase_of, event_of, has_event, Progress, first_progress, next_progress, same_event, may_follow, follows_from, is_live_so_far, is_live}
use Rattle.world_model.specs.Steady.{NoneRecovers, phase_at}
use Rattle.law_safety.specs.Plans.{IsCheckedPlan}
use Rattle.dpc_lists.proofs.Truths.{both, both-of, all-part, all-drop}
use Rattle.world_model.proofs.Running.{run-push}
use Rattle.law_schedules.proofs.Journals.{live-far}
use Rattle.law_lockstep.specs.Calm.{CalmFrom, IsCalm}
use Rattle.law_calm.specs.Crashes.{crashes_none, is_no_crash, has_no_crash}
use Rattle.law_calm.proofs.Running.{none-recovers}

-- ---- lists

all-parts : {X : Type 0} (q : X → Bool) (xs ys : List X) → list_all q (xs ++ ys) ≡ true → (list_all q xs ≡ true) × (list_all q ys ≡ true)
all-parts q [] ys h = (refl, h)
all-parts q (x ∷ xs) ys h =
    let p = both (q x) (list_all q (xs ++ ys)) h in
    let r = all-parts q xs ys p.1 in (both-of (q x) (list_all q xs) p.0 r.0, r.1)

-- the directives of a phase, or of none
phase-crashes : (d : PhaseSpec) (phases : List PhaseSpec) (i : ℕ) → list_all is_no_crash d.directives ≡ true → list_all is_no_crash (flat_map (λ (p : PhaseSpec). p.directives) phases) ≡ true → list_all is_no_crash (nth d phases i).directives ≡ true
phase-crashes d [] i none h = none
phase-crashes d (p ∷ phases) zero none h = (all-parts is_no_crash p.directives (flat_map (λ (z : PhaseSpec). z.directives) phases) h).0
phase-crashes d (p ∷ phases) (suc i) none h = phase-crashes d phases i none (all-parts is_no_crash p.directives (flat_map (λ (z : PhaseSpec). z.directives) phases) h).1

-- ---- a journal

-- only the directive of a crash makes a crash come next
never-crashes : (w : World) (a : ℕ) (d : Directive) → is_no_crash d ≡ true → (elim (event_of w d) as (λ _. Bool) [ None ↦ false | Some f ↦ same_event f (Crash a) ]) ≡ true → ⊥
never-crashes w a (directive.Emit s t) h e = cc
never-crashes w a (directive.Release s t) h e = cc
never-crashes w a (directive.Cut b c) h e = cc
never-crashes w a (directive.Heal b c) h e = cc
never-crashes w a (directive.Lose b c) h e = cc
never-crashes w a (directive.Repeat b c) h e = cc
never-crashes w a (directive.Crash b) h e = cc
never-crashes w a (directive.Restart b) h e = cc

none-next : (w : World) (a : ℕ) (todo : List Directive) → list_all is_no_crash todo ≡ true → (elim todo as (λ _. Bool) [ [] ↦ false | ◌∷◌ d rest ↦ elim (event_of w d) [ None ↦ false | Some f ↦ same_event f (Crash a) ] ]) ≡ true → ⊥
none-next w a [] h e = cc
none-next w a (d ∷ rest) h e = never-crashes w a d (both (is_no_crash d) (list_all is_no_crash rest) h).0 e

module _ (script : Script) (calm : has_no_crash script ≡ true) where
  -- an event that may follow crashes nobody
  follows-none : (x : Progress) (e : Event) → list_all is_no_crash x.todo ≡ true → may_follow script x e ≡ true → crashes_none e ≡ true
  follows-none x (Crash a) todo may = absurd (none-next x.world a x.todo todo may)
  follows-none x (Phase p) todo may = refl
  follows-none x (Emit s t) todo may = refl
  follows-none x (Release s t) todo may = refl
  follows-none x (Cut a b) todo may = refl
  follows-none x (Heal a b) todo may = refl
  follows-none x (Restart a i) todo may = refl
  follows-none x (Deliver k) todo may = refl
  follows-none x (Tick a now) todo may = refl
  follows-none x (Mill a r) todo may = refl

  -- nor does a directive that is still to come
  todo-next : (x : Progress) (e : Event) → list_all is_no_crash x.todo ≡ true → list_all is_no_crash (next_progress script x e).todo ≡ true
  todo-next x (Phase p) todo = all-part is_no_crash has_event (phase_of script p).directives (phase-crashes _ script.phases (p - 1) refl calm)
  todo-next x (Deliver k) todo = todo
  todo-next x (Tick a now) todo = todo
  todo-next x (Mill a r) todo = todo
  todo-next x (Emit s t) todo = all-drop is_no_crash 1 x.todo todo
  todo-next x (Release s t) todo = all-drop is_no_crash 1 x.todo todo
  todo-next x (Cut a b) todo = all-drop is_no_crash 1 x.todo todo
  todo-next x (Heal a b) todo = all-drop is_no_crash 1 x.todo todo
  todo-next x (Crash a) todo = all-drop is_no_crash 1 x.todo todo
  todo-next x (Restart a i) todo = all-drop is_no_crash 1 x.todo todo

  journal-none : (x : Progress) (events : List Event) → list_all is_no_crash x.todo ≡ true → follows_from script x events ≡ true → list_all crashes_none events ≡ true
  journal-none x [] todo live = refl
  journal-none x (e ∷ events) todo live =
      let k = both (may_follow script x e) (follows_from script (next_progress script x e) events) live in
      both-of (crashes_none e) (list_all crashes_none events) (follows-none x e todo k.0) (journal-none (next_progress script x e) events (todo-next x e todo) k.1)

  live-none : (events : List Event) → is_live_so_far script events ≡ true → list_all crashes_none events ≡ true
  unfolding is_live_so_far
  live-none events live = journal-none (first_progress script) events refl live

-- ---- calm

calm-from : (script : Script) (checked : IsCheckedPlan script.plan) (p : ℕ) (before rest : List Event) → list_all crashes_none (before ++ rest) ≡ true → CalmFrom script p (run script.plan before) rest
calm-from script checked p before [] none = tt
calm-from script checked p before (e ∷ rest) none =
    let plan = script.plan in
    let all : list_all crashes_none ((before ++ e ∷ []) ++ rest) ≡ true = ap (λ (es : List Event). list_all crashes_none es) (append_assoc before (e ∷ []) rest) ∙ none in
    let so_far = (all-parts crashes_none (before ++ e ∷ []) rest all).0 in
    let push = run-push plan before e in (
      λ late. subst (λ (w : World). NoneRecovers w.nodes) push (none-recovers plan checked (before ++ e ∷ []) so_far),
      subst (λ (w : World). CalmFrom script (phase_at p e) w rest) push (calm-from script checked (phase_at p e) (before ++ e ∷ []) rest all),
    )

run-none : (plan : _) → run plan [] ≡ new_world plan
unfolding run
run-none plan = refl

pub script-calm : (script : Script) (events : List Event) → IsCheckedPlan script.plan → has_no_crash script ≡ true → is_live script events ≡ true → IsCalm script events
script-calm script events checked calm live =
    subst (λ (w : World). CalmFrom script 0 w events) (run-none script.plan) (calm-from script checked 0 [] events (live-none script calm events (live-far script events live)))
