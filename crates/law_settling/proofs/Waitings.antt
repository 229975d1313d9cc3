-- Envelopes that wait: one stays until it is delivered, becomes pending at the next phase, and is delivered in it.
use Rattle.std.proofs.Common.{◌≡◌, ℕ, ◌-◌, Bool, true, false, cond, not, ◌&&◌, ◌||◌, ◌==◌, List, [], ◌∷◌, ◌++◌, map, refl, ◌∙◌, slice_get}
use Rattle.std.specs.List.{filter}
use Rattle.dpc_lists.specs.Lists.{list_all, list_any}
use Rattle.dpc_model.specs.declared.messages.Event.{Event}
use Rattle.dpc_model.specs.declared.messages.Event.TheVariants.{Phase, Emit, Release, Cut, Heal, Crash, Restart, Deliver, Tick, Mill}
use Rattle.dpc_model.specs.declared.scripts.Script.{Script}
use Rattle.world_model.specs.Worlds.{World, happens}
use Rattle.world_model.specs.Schedules.{Undelivered, Progress, next_progress, may_come, delivery_made, pending_in, becomes_pending, is_lost, newly_sent, is_phase_complete, all_ticked, all_delivered, all_milled}
use Rattle.dpc_lists.specs.Lists.{is_nil}
use Rattle.dpc_lists.proofs.Truths.{both, eq-of}
use Rattle.world_model.specs.Events.{is_quiet, is_delivery}
pub use Rattle.law_settling.specs.Phased.{waits}

-- an envelope waits, and is pending
abbrev pub is_due : ℕ → List Undelivered → Bool
is_due k xs = list_any (λ (y : Undelivered). y.number == k && y.pending) xs

-- ---- lists

module _ {X : Type 0} (q : X → Bool) where
  pub any-append : (xs ys : List X) → list_any q xs ≡ true → list_any q (xs ++ ys) ≡ true
  any-append [] ys h = cc
  any-append (x ∷ xs) ys h = elim (q x) as (λ b. (b || list_any q xs) ≡ true → (b || list_any q (xs ++ ys)) ≡ true) [
    | true ↦ λ e. refl
    | false ↦ λ e. any-append xs ys e
  ] h

-- one delivery of another envelope
made-other : (q : Undelivered → Bool) (j : ℕ) → ((y : Undelivered) (m : ℕ) → q (record y { left = m }) ≡ q y) → ((y : Undelivered) → (y.number == j) ≡ true → q y ≡ false) →
    (xs : List Undelivered) → list_any q xs ≡ true → list_any q (delivery_made j xs) ≡ true
made-other q j left other [] h = cc
made-other q j left other (y ∷ ys) h =
    (elim (y.number == j) as (λ b. (y.number == j) ≡ b → list_any q (cond b (cond (y.left == 1) ys (record y { left = y.left - 1 } ∷ ys)) (y ∷ delivery_made j ys)) ≡ true) [
      | true ↦ λ e.
          let out = other y e in
          let rest : list_any q ys ≡ true = rw out at h in
          elim (y.left == 1) as (λ c. list_any q (cond c ys (record y { left = y.left - 1 } ∷ ys)) ≡ true) [
            | true ↦ rest
            | false ↦ let same : q (record y { left = y.left - 1 }) ≡ false = left y (y.left - 1) ∙ out in rw same rest
          ]
      | false ↦ λ e. elim (q y) as (λ b. (b || list_any q ys) ≡ true → (b || list_any q (delivery_made j ys)) ≡ true) [
        | true ↦ λ f. refl
        | false ↦ λ f. made-other q j left other ys f
      ] h
    ]) refl

another : (n j k : ℕ) → (j == k) ≡ false → (n == j) ≡ true → (n == k) ≡ false
another n j k h e = let same = eq-of n j e in rw (same, h) refl

waits-made : (j k : ℕ) (xs : List Undelivered) → (j == k) ≡ false → waits k xs ≡ true → waits k (delivery_made j xs) ≡ true
waits-made j k xs h = made-other (λ (y : Undelivered). y.number == k) j (λ y m. refl) (λ y e. another y.number j k h e) xs

due-made : (j k : ℕ) (xs : List Undelivered) → (j == k) ≡ false → is_due k xs ≡ true → is_due k (delivery_made j xs) ≡ true
due-made j k xs h = made-other (λ (y : Undelivered). y.number == k && y.pending) j (λ y m. refl) (λ y e. let out = another y.number j k h e in rw out refl) xs

-- ---- an event of the phase that is not its delivery

pub waits-on : (script : Script) (x : Progress) (e : Event) (k : ℕ) → is_quiet e ≡ true → is_delivery k e ≡ false → waits k x.waiting ≡ true → waits k (next_progress script x e).waiting ≡ true
waits-on script x (Phase p) k q d h = cc
waits-on script x (Emit s t) k q d h = cc
waits-on script x (Release s t) k q d h = cc
waits-on script x (Cut a b) k q d h = cc
waits-on script x (Heal a b) k q d h = cc
waits-on script x (Crash a) k q d h = cc
waits-on script x (Restart a i) k q d h = cc
waits-on script x (Deliver j) k q d h = any-append (λ (y : Undelivered). y.number == k) (delivery_made j x.waiting) (newly_sent x.world (happens x.world (Deliver j))) (waits-made j k x.waiting d h)
waits-on script x (Tick a now) k q d h = any-append (λ (y : Undelivered). y.number == k) x.waiting (newly_sent x.world (happens x.world (Tick a now))) h
waits-on script x (Mill a r) k q d h = any-append (λ (y : Undelivered). y.number == k) x.waiting (newly_sent x.world (happens x.world (Mill a r))) h

pub due-on : (script : Script) (x : Progress) (e : Event) (k : ℕ) → is_quiet e ≡ true → is_delivery k e ≡ false → is_due k x.waiting ≡ true → is_due k (next_progress script x e).waiting ≡ true
due-on script x (Phase p) k q d h = cc
due-on script x (Emit s t) k q d h = cc
due-on script x (Release s t) k q d h = cc
due-on script x (Cut a b) k q d h = cc
due-on script x (Heal a b) k q d h = cc
due-on script x (Crash a) k q d h = cc
due-on script x (Restart a i) k q d h = cc
due-on script x (Deliver j) k q d h = any-append (λ (y : Undelivered). y.number == k && y.pending) (delivery_made j x.waiting) (newly_sent x.world (happens x.world (Deliver j))) (due-made j k x.waiting d h)
due-on script x (Tick a now) k q d h = any-append (λ (y : Undelivered). y.number == k && y.pending) x.waiting (newly_sent x.world (happens x.world (Tick a now))) h
due-on script x (Mill a r) k q d h = any-append (λ (y : Undelivered). y.number == k && y.pending) x.waiting (newly_sent x.world (happens x.world (Mill a r))) h

-- ---- the end of a phase

abbrev pub comes : World → ℕ → Bool
comes w k = may_come w (slice_get w.envelopes k)

-- what a complete phase has, where one is open
pub record IsDone (x : Progress) : Type 0 where
  pub ticked : all_ticked x ≡ true
  pub delivered : all_delivered x ≡ true
  pub milled : all_milled x ≡ true

pub done-of : (x : Progress) → (x.phase == 0) ≡ false → is_phase_complete x ≡ true → IsDone x
done-of x some h =
    let parts : (is_nil x.todo && all_ticked x && all_delivered x && all_milled x) ≡ true = rw some at h in
    let c = both (is_nil x.todo && all_ticked x && all_delivered x) (all_milled x) parts in
    let b = both (is_nil x.todo && all_ticked x) (all_delivered x) c.0 in
    let a = both (is_nil x.todo) (all_ticked x) b.0 in
    record { ticked = a.1; delivered = b.1; milled = c.1 }

abbrev is_left : World → Undelivered → Bool
is_left w y = not y.pending || not (may_come w (slice_get w.envelopes y.number))

-- what is not pending any more, and may come
none-left : (w : World) (y : Undelivered) (k : ℕ) → comes w k ≡ true → is_left w y ≡ true → (y.number == k) ≡ true → y.pending ≡ false
none-left w y k can h e =
    let same = eq-of y.number k e in
    let may : may_come w (slice_get w.envelopes y.number) ≡ true = rw same can in
    let only : (not y.pending || false) ≡ true = rw may at h in
    by-pending y.pending only
  where
    by-pending : (b : Bool) → (not b || false) ≡ true → b ≡ false
    by-pending true h = cc
    by-pending false h = refl

pub none-due : (w : World) (k : ℕ) (xs : List Undelivered) → comes w k ≡ true → list_all (is_left w) xs ≡ true → is_due k xs ≡ true → ⊥
none-due w k [] can h due = cc
none-due w k (y ∷ ys) can h due =
    let p = both (is_left w y) (list_all (is_left w) ys) h in
    let here = p.0 in
    let rest = p.1 in
    (elim (y.number == k) as (λ b. (y.number == k) ≡ b → ((b && y.pending) || is_due k ys) ≡ true → ⊥) [
      | true ↦ λ e d. let no = none-left w y k can here e in let on : is_due k ys ≡ true = rw no at d in none-due w k ys can rest on
      | false ↦ λ e d. none-due w k ys can rest d
    ]) refl due

-- it is pending in the next phase, which has no directives
pub becomes-due : (w : World) (k : ℕ) (xs : List Undelivered) → comes w k ≡ true → list_all (is_left w) xs ≡ true → waits k xs ≡ true → is_due k (pending_in w [] xs) ≡ true
becomes-due w k [] can h waiting = cc
becomes-due w k (y ∷ ys) can h waiting =
    let p = both (is_left w y) (list_all (is_left w) ys) h in
    let here = p.0 in
    let rest = p.1 in
    (elim (y.number == k) as (λ b. (y.number == k) ≡ b → (b || waits k ys) ≡ true → is_due k (pending_in w [] (y ∷ ys)) ≡ true) [
      | true ↦ λ e d. let no = none-left w y k can here e in rw (no, e) refl
      | false ↦ λ e d.
          let on = becomes-due w k ys can rest d in
          elim (y.pending) as (λ c. is_due k (map (becomes_pending w []) (cond (not c && true) (y ∷ filter (λ (x : Undelivered). not x.pending && not (is_lost w [] x)) ys) (filter (λ (x : Undelivered). not x.pending && not (is_lost w [] x)) ys))) ≡ true) [
            | true ↦ on
            | false ↦ rw e on
          ]
    ]) refl waiting
