-- Envelopes wait in order of their numbers, each once; and what is not pending has one delivery to come.
use Rattle.std.proofs.Common.{◌≡◌, ℕ, zero, suc, ◌+◌, ◌-◌, ◌<◌, ◌≤◌, Bool, true, false, cond, not, ◌&&◌, ◌==◌, List, [], ◌∷◌, ◌++◌, map, length, refl, sym, ap, ◌∙◌, arith}
use Rattle.std.specs.List.{filter}
use Rattle.std.proofs.lemmas.List.{length-append}
use Rattle.dpc_lists.specs.Lists.{range_with_len}
use Rattle.dpc_model.specs.declared.messages.Event.{Event}
use Rattle.dpc_model.specs.declared.messages.Event.TheVariants.{Phase, Emit, Release, Cut, Heal, Crash, Restart, Deliver, Tick, Mill}
use Rattle.dpc_model.specs.declared.scripts.Directive.{Directive}
use Rattle.dpc_model.specs.declared.scripts.Script.{Script}
use Rattle.world_model.specs.Worlds.{World, happens}
use Rattle.world_model.specs.Schedules.{Undelivered, Progress, next_progress, noting, phase_of, delivery_made, becomes_pending, is_lost, pending_in, newly_sent}
use Rattle.dpc_lists.proofs.Truths.{eq-of, eq-test}
use Rattle.law_safety.proofs.Growing.{event-grows}
use Rattle.dpc_lists.proofs.Each.{Each, each-append}

-- ---- what holds of each

each-made : (P : Undelivered → Type 0) (k : ℕ) (xs : List Undelivered) → ((y : Undelivered) (n : ℕ) → (y.left == 1) ≡ false → P y → P (record y { left = n })) → Each P xs → Each P (delivery_made k xs)
each-made P k [] left h = tt
each-made P k (y ∷ ys) left h =
    elim (y.number == k) as (λ b. Each P (cond b (cond (y.left == 1) ys (record y { left = y.left - 1 } ∷ ys)) (y ∷ delivery_made k ys))) [
      | false ↦ (h.0, each-made P k ys left h.1)
      | true ↦ (elim (y.left == 1) as (λ b. (y.left == 1) ≡ b → Each P (cond b ys (record y { left = y.left - 1 } ∷ ys))) [ true ↦ λ e. h.1 | false ↦ λ e. (left y (y.left - 1) e h.0, h.1) ]) refl
    ]

-- of those that become pending
each-pending : (P Q : Undelivered → Type 0) (w : World) (ds : List Directive) (xs : List Undelivered) → ((y : Undelivered) → y.pending ≡ false → P y → Q (becomes_pending w ds y)) → Each P xs → Each Q (pending_in w ds xs)
each-pending P Q w ds [] next h = tt
each-pending P Q w ds (y ∷ ys) next h =
    let rest = each-pending P Q w ds ys next h.1 in
    (elim y.pending as (λ b. y.pending ≡ b → Each Q (map (becomes_pending w ds) (cond (not b && not (is_lost w ds y)) (y ∷ filter (λ (x : Undelivered). not x.pending && not (is_lost w ds x)) ys) (filter (λ (x : Undelivered). not x.pending && not (is_lost w ds x)) ys)))) [
      | true ↦ λ e. rest
      | false ↦ λ e. elim (is_lost w ds y) as (λ b. Each Q (map (becomes_pending w ds) (cond (not b) (y ∷ filter (λ (x : Undelivered). not x.pending && not (is_lost w ds x)) ys) (filter (λ (x : Undelivered). not x.pending && not (is_lost w ds x)) ys)))) [
        | true ↦ rest
        | false ↦ (next y e h.0, rest)
      ]
    ]) refl

-- the entry of an envelope that was just sent
abbrev pub sent_entry : ℕ → Undelivered
sent_entry k = record { number = k; left = 1; pending = false }

pub each-sent : (P : Undelivered → Type 0) (low many : ℕ) → ((k : ℕ) → low ≤ k → P (sent_entry k)) → Each P (map sent_entry (range_with_len low many))
each-sent P low zero h = tt
each-sent P low (suc many) h = (h low (omega arith), each-sent P (low + 1) many (λ k less. h k (omega (arith, less))))

-- so it is after an event, where it is of all that wait, of what is sent, and of what becomes pending
pub record EachGoes (z : Progress) (P Q : Undelivered → Type 0) : Type 0 where
  pub left : (y : Undelivered) (n : ℕ) → (y.left == 1) ≡ false → P y → P (record y { left = n })
  pub same : (y : Undelivered) → P y → Q y
  pub due : (ds : List Directive) (y : Undelivered) → y.pending ≡ false → P y → Q (becomes_pending z.world ds y)
  pub new : (k : ℕ) → length z.world.envelopes ≤ k → Q (sent_entry k)

each-weak : (P Q : Undelivered → Type 0) (xs : List Undelivered) → ((y : Undelivered) → P y → Q y) → Each P xs → Each Q xs
each-weak P Q [] f h = tt
each-weak P Q (y ∷ ys) f h = (f y h.0, each-weak P Q ys f h.1)

pub each-next : (script : Script) (z : Progress) (e : Event) (P Q : Undelivered → Type 0) → EachGoes z P Q → Each P z.waiting → Each Q (next_progress script z e).waiting
each-next script z e P Q g h = each-append Q (noting script z e).waiting (newly_sent z.world (happens z.world e)) (noted e) (each-sent Q (length z.world.envelopes) (length (happens z.world e).envelopes - length z.world.envelopes) g.new)
  where
    all : Each Q z.waiting
    all = each-weak P Q z.waiting g.same h

    noted : (d : Event) → Each Q (noting script z d).waiting
    noted (Phase p) = each-pending P Q z.world (phase_of script p).directives z.waiting (g.due (phase_of script p).directives) h
    noted (Deliver k) = each-weak P Q (delivery_made k z.waiting) g.same (each-made P k z.waiting g.left h)
    noted (Tick a now) = all
    noted (Mill a r) = all
    noted (Emit s t) = all
    noted (Release s t) = all
    noted (Cut a b) = all
    noted (Heal a b) = all
    noted (Crash a) = all
    noted (Restart a i) = all

-- once the next phase opens, only what was not pending waits
pub each-opened : (script : Script) (z : Progress) (p : ℕ) (P Q : Undelivered → Type 0) → ((ds : List Directive) (y : Undelivered) → y.pending ≡ false → P y → Q (becomes_pending z.world ds y)) → ((k : ℕ) → length z.world.envelopes ≤ k → Q (sent_entry k)) → Each P z.waiting →
    Each Q (next_progress script z (Phase p)).waiting
each-opened script z p P Q due new h =
    each-append Q (pending_in z.world (phase_of script p).directives z.waiting) (newly_sent z.world z.world) (each-pending P Q z.world (phase_of script p).directives z.waiting (due (phase_of script p).directives) h)
    (each-sent Q (length z.world.envelopes) (length z.world.envelopes - length z.world.envelopes) new)

-- ---- order

-- numbers rise, from one on and below another
abbrev pub Rises : ℕ → List Undelivered → ℕ → Type 0
Rises low [] high = low ≤ high
Rises low (y ∷ ys) high = (low ≤ y.number) × Rises (y.number + 1) ys high

rises-low : (low lower high : ℕ) (xs : List Undelivered) → lower ≤ low → Rises low xs high → Rises lower xs high
rises-low low lower high [] less h = omega (arith, less, h)
rises-low low lower high (y ∷ ys) less h = let first = h.0 in (omega (arith, less, first), h.1)

rises-below : (low high : ℕ) (xs : List Undelivered) → Rises low xs high → low ≤ high
rises-below low high [] h = h
rises-below low high (y ∷ ys) h = let rest = rises-below (y.number + 1) high ys h.1 in let first = h.0 in omega (arith, rest, first)

rises-made : (k low high : ℕ) (xs : List Undelivered) → Rises low xs high → Rises low (delivery_made k xs) high
rises-made k low high [] h = h
rises-made k low high (y ∷ ys) h =
    elim (y.number == k) as (λ b. Rises low (cond b (cond (y.left == 1) ys (record y { left = y.left - 1 } ∷ ys)) (y ∷ delivery_made k ys)) high) [
      | false ↦ (h.0, rises-made k (y.number + 1) high ys h.1)
      | true ↦ elim (y.left == 1) as (λ b. Rises low (cond b ys (record y { left = y.left - 1 } ∷ ys)) high) [ true ↦ let first = h.0 in rises-low (y.number + 1) low high ys (omega (arith, first)) h.1 | false ↦ h ]
    ]

rises-pending : (w : World) (ds : List Directive) (low high : ℕ) (xs : List Undelivered) → Rises low xs high → Rises low (pending_in w ds xs) high
rises-pending w ds low high [] h = h
rises-pending w ds low high (y ∷ ys) h =
    elim (not y.pending && not (is_lost w ds y)) as (λ b. Rises low (map (becomes_pending w ds) (cond b (y ∷ filter (λ (x : Undelivered). not x.pending && not (is_lost w ds x)) ys) (filter (λ (x : Undelivered). not x.pending && not (is_lost w ds x)) ys))) high) [
      | true ↦ (h.0, rises-pending w ds (y.number + 1) high ys h.1)
      | false ↦ let first = h.0 in rises-pending w ds low high ys (rises-low (y.number + 1) low high ys (omega (arith, first)) h.1)
    ]

rises-sent : (low many high : ℕ) → low + many ≡ high → Rises low (map sent_entry (range_with_len low many)) high
rises-sent low zero high e = omega (arith, e)
rises-sent low (suc many) high e = (omega arith, rises-sent (low + 1) many high (omega (arith, e)))

rises-append : (low mid high : ℕ) (xs ys : List Undelivered) → Rises low xs mid → Rises mid ys high → Rises low (xs ++ ys) high
rises-append low mid high [] ys h g = rises-low mid low high ys h g
rises-append low mid high (x ∷ xs) ys h g = (h.0, rises-append (x.number + 1) mid high xs ys h.1 g)

abbrev pub IsFresh : Undelivered → Type 0
IsFresh y = y.pending ≡ false → y.left ≡ 1

pub record IsOrderly (z : Progress) : Type 0 where
  pub rising : Rises 0 z.waiting (length z.world.envelopes)
  pub fresh : Each IsFresh z.waiting

pub orderly-next : (script : Script) (z : Progress) (e : Event) → IsOrderly z → IsOrderly (next_progress script z e)
orderly-next script z e h =
    let grows = event-grows z.world e in
    let many = ap length grows.envelopes ∙ length-append z.world.envelopes grows.more in
    record {
      rising = rises-append 0 (length z.world.envelopes) (length (happens z.world e).envelopes) (noting script z e).waiting (newly_sent z.world (happens z.world e)) (noted e)
          (rises-sent (length z.world.envelopes) (length (happens z.world e).envelopes - length z.world.envelopes) (length (happens z.world e).envelopes) (omega (arith, many)));
      fresh = each-next script z e IsFresh IsFresh (record { left = λ y n one f pending. absurd (not-one y.left one (f pending)); same = λ y f. f; due = λ ds y no f pending. cc; new = λ k low pending. refl }) h.fresh;
    }
  where
    not-one : (n : ℕ) → (n == 1) ≡ false → n ≡ 1 → ⊥
    not-one n e same = let clash : true ≡ false = sym (ap (λ (m : ℕ). m == 1) same) ∙ e in cc

    noted : (d : Event) → Rises 0 (noting script z d).waiting (length z.world.envelopes)
    noted (Phase p) = rises-pending z.world (phase_of script p).directives 0 (length z.world.envelopes) z.waiting h.rising
    noted (Deliver k) = rises-made k 0 (length z.world.envelopes) z.waiting h.rising
    noted (Tick a now) = h.rising
    noted (Mill a r) = h.rising
    noted (Emit s t) = h.rising
    noted (Release s t) = h.rising
    noted (Cut a b) = h.rising
    noted (Heal a b) = h.rising
    noted (Crash a) = h.rising
    noted (Restart a i) = h.rising

-- ---- the first delivery

none-later : (m low high : ℕ) (xs : List Undelivered) → m < low → Rises low xs high → Each (λ (y : Undelivered). y.number ≡ m → y.pending ≡ true) xs
none-later m low high [] less h = tt
none-later m low high (y ∷ ys) less h = let first = h.0 in ((λ same. absurd (omega (arith, first, less, same))), none-later m (y.number + 1) high ys (omega (arith, first, less)) h.1)

-- once it was delivered an envelope is pending, or does not wait any more
pub delivered-pending : (m low high : ℕ) (xs : List Undelivered) → Rises low xs high → Each IsFresh xs → Each (λ (y : Undelivered). y.number ≡ m → y.pending ≡ true) (delivery_made m xs)
delivered-pending m low high [] h f = tt
delivered-pending m low high (y ∷ ys) h f =
    (elim (y.number == m) as (λ b. (y.number == m) ≡ b → Each (λ (x : Undelivered). x.number ≡ m → x.pending ≡ true) (cond b (cond (y.left == 1) ys (record y { left = y.left - 1 } ∷ ys)) (y ∷ delivery_made m ys))) [
      | false ↦ λ e. ((λ same. let clash : true ≡ false = sym (eq-test y.number m same) ∙ e in cc), delivered-pending m (y.number + 1) high ys h.1 f.1)
      | true ↦ λ e.
          let same = eq-of y.number m e in
          let rest = none-later m (y.number + 1) high ys (omega (arith, same)) h.1 in
          (elim (y.left == 1) as (λ b. (y.left == 1) ≡ b → Each (λ (x : Undelivered). x.number ≡ m → x.pending ≡ true) (cond b ys (record y { left = y.left - 1 } ∷ ys))) [
            | true ↦ λ one. rest
            | false ↦ λ one. ((λ it. by-pending y.pending refl one), rest)
          ]) refl
    ]) refl
  where
    by-pending : (b : Bool) → y.pending ≡ b → (y.left == 1) ≡ false → y.pending ≡ true
    by-pending true e one = e
    by-pending false e one = let clash : true ≡ false = sym (ap (λ (n : ℕ). n == 1) (f.0 e)) ∙ one in cc
