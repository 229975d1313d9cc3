-- The directives that a live journal has still to do are those of a phase of its script.
use Rattle.std.proofs.Common.{◌≡◌, ℕ, zero, suc, ◌+◌, ◌-◌, ◌^◌, Bool, true, ◌&&◌, List, [], ◌∷◌, ◌++◌, length, refl, subst}
use Rattle.std.specs.Prelude.{flat_map}
use Rattle.dpc_lists.specs.Lists.{nth, list_all}
use Rattle.dpc_lists.proofs.Truths.{both, both-of, all-part, all-drop}
use Rattle.dpc_model.specs.declared.messages.Event.{Event}
use Rattle.dpc_model.specs.declared.messages.Event.TheVariants.{Phase, Emit, Release, Cut, Heal, Crash, Restart, Deliver, Tick, Mill}
use Rattle.dpc_model.specs.declared.plans.Plan.{Plan}
use Rattle.dpc_model.specs.declared.scripts.Directive.{Directive}
use Rattle.dpc_model.specs.declared.scripts.Phase.{Phase as PhaseSpec}
use Rattle.dpc_model.specs.declared.scripts.Script.{Script}
use Rattle.script_rules.specs.Checking.{IsChecked, is_directive_in_range, is_phase_in_range}
use Rattle.script_rules.specs.Facts.{directive_fits}
use Rattle.script_rules.specs.Places.{is_between}
use Rattle.script_rules.proofs.Ranges.{ranges}
use Rattle.script_rules.proofs.SaysItself.{checked_has_facts}
use Rattle.world_model.specs.Schedules.{phase_of, last_clock, has_event, Progress, next_progress, progress_from}
use Rattle.law_healing.proofs.Steps.{IsNext}

-- ---- the directives of the phases

-- what is checked of a directive
abbrev pub is_sound : Plan → Directive → Bool
is_sound plan d = directive_fits plan d && is_directive_in_range plan d

all-first : {X : Type 0} (q : X → Bool) (xs ys : List X) → list_all q (xs ++ ys) ≡ true → (list_all q xs ≡ true) × (list_all q ys ≡ true)
all-first q [] ys h = (refl, h)
all-first q (x ∷ xs) ys h =
    let p = both (q x) (list_all q (xs ++ ys)) h in
    let r = all-first q xs ys p.1 in
    (both-of (q x) (list_all q xs) p.0 r.0, r.1)

all-both : {X : Type 0} (p q : X → Bool) (xs : List X) → list_all p xs ≡ true → list_all q xs ≡ true → list_all (λ x. p x && q x) xs ≡ true
all-both p q [] h k = refl
all-both p q (x ∷ xs) h k =
    let a = both (p x) (list_all p xs) h in
    let b = both (q x) (list_all q xs) k in
    both-of (p x && q x) (list_all (λ y. p y && q y) xs) (both-of (p x) (q x) a.0 b.0) (all-both p q xs a.1 b.1)

each-sound : (plan : Plan) (now : ℕ) (ps : List PhaseSpec) (i : ℕ) → list_all (directive_fits plan) (flat_map (λ (p : PhaseSpec). p.directives) ps) ≡ true → list_all (is_phase_in_range plan) ps ≡ true →
    list_all (is_sound plan) (nth (record { directives = []; now = now }) ps i).directives ≡ true
each-sound plan now [] i h k = refl
each-sound plan now (p ∷ ps) zero h k =
    let range = both (is_phase_in_range plan p) (list_all (is_phase_in_range plan) ps) k in
    let here = both (list_all (is_directive_in_range plan) p.directives) (is_between 0 (10 ^ 12) p.now) range.0 in
    all-both (directive_fits plan) (is_directive_in_range plan) p.directives (all-first (directive_fits plan) p.directives (flat_map (λ (x : PhaseSpec). x.directives) ps) h).0 here.0
each-sound plan now (p ∷ ps) (suc i) h k =
    each-sound plan now ps i (all-first (directive_fits plan) p.directives (flat_map (λ (x : PhaseSpec). x.directives) ps) h).1 (both (is_phase_in_range plan p) (list_all (is_phase_in_range plan) ps) k).1

pub phase-sound : (script : Script) (p : ℕ) → IsChecked script → list_all (is_sound script.plan) (phase_of script p).directives ≡ true
phase-sound script p checked =
    each-sound script.plan (last_clock script + (p - length script.phases)) script.phases (p - 1) (checked_has_facts script checked).directives (ranges script checked.in_range).phases

-- ---- those still to do

next-sound : (script : Script) (x : Progress) (e : Event) → IsChecked script → list_all (is_sound script.plan) x.todo ≡ true → list_all (is_sound script.plan) (next_progress script x e).todo ≡ true
next-sound script x (Phase p) checked h = all-part (is_sound script.plan) has_event (phase_of script p).directives (phase-sound script p checked)
next-sound script x (Emit a t) checked h = all-drop (is_sound script.plan) 1 x.todo h
next-sound script x (Release a t) checked h = all-drop (is_sound script.plan) 1 x.todo h
next-sound script x (Cut a b) checked h = all-drop (is_sound script.plan) 1 x.todo h
next-sound script x (Heal a b) checked h = all-drop (is_sound script.plan) 1 x.todo h
next-sound script x (Crash a) checked h = all-drop (is_sound script.plan) 1 x.todo h
next-sound script x (Restart a i) checked h = all-drop (is_sound script.plan) 1 x.todo h
next-sound script x (Deliver k) checked h = h
next-sound script x (Tick a now) checked h = h
next-sound script x (Mill a r) checked h = h

pub todo-sound : (script : Script) (x : Progress) (es : List Event) → IsChecked script → list_all (is_sound script.plan) x.todo ≡ true → list_all (is_sound script.plan) (progress_from script x es).todo ≡ true
todo-sound script x [] checked h = h
todo-sound script x (e ∷ es) checked h = todo-sound script (next_progress script x e) es checked (next-sound script x e checked h)

pub first-sound : (script : Script) (x : Progress) (e : Event) → (n : IsNext x e) → list_all (is_sound script.plan) x.todo ≡ true → is_sound script.plan n.first ≡ true
first-sound script x e n h = (both (is_sound script.plan n.first) (list_all (is_sound script.plan) n.rest) (subst (λ (ds : List Directive). list_all (is_sound script.plan) ds ≡ true) n.todo h)).0
