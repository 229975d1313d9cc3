-- The last bucket that waited too long, by the places for stamps.
use Rattle.std.proofs.Common.{◌≡◌, ℕ, zero, suc, ◌+◌, ◌-◌, ◌<◌, ◌≤◌, Bool, true, false, nat_le, ◌&&◌, ◌==◌, min, inl, inr, List, [], ◌∷◌, length, refl, sym, ap, ◌∙◌, arith, Option, Some, None}
use Rattle.std.proofs.lemmas.Grind.{common_steps}
use Rattle.std.proofs.lemmas.Bool.{cases_order}
use Rattle.dpc_lists.specs.Lists.{nth, last_below}
use Rattle.dpc_model.specs.Due.{stamp_of, waited_long}
use Rattle.dpc_lists.proofs.Truths.{and-none}
use Rattle.dpc_lists.proofs.Elements.{nth-past}
use Rattle.dpc_lists.proofs.Places.{last-same, last-none}
use Rattle.sunion.specs.Clocks.{stamps_from}
use Rattle.sunion.proofs.Stamping.{is_waiting}

-- ---- the stamp of a bucket is what its place says

pub stamp-before : (first : ℕ) (clocks : List (Option ℕ)) (k : ℕ) → k < first → stamp_of (stamps_from first clocks) k ≡ None
stamp-before first [] k low = refl
stamp-before first (None ∷ clocks) k low = stamp-before (first + 1) clocks k (omega (arith, low))
stamp-before first (Some at ∷ clocks) k low =
    let other : (first == k) ≡ false = grind (arith, common_steps, low) in rw other (stamp-before (first + 1) clocks k (omega (arith, low)))

pub stamp-at : (first : ℕ) (clocks : List (Option ℕ)) (place k : ℕ) → k ≡ first + place → stamp_of (stamps_from first clocks) k ≡ nth None clocks place
stamp-at first [] place k e = refl
stamp-at first (None ∷ clocks) zero k e = stamp-before (first + 1) clocks k (omega (arith, e))
stamp-at first (Some at ∷ clocks) zero k e = let here : (first == k) ≡ true = grind (arith, common_steps, e) in rw here refl
stamp-at first (None ∷ clocks) (suc place) k e = stamp-at (first + 1) clocks place k (omega (arith, e))
stamp-at first (Some at ∷ clocks) (suc place) k e =
    let other : (first == k) ≡ false = grind (arith, common_steps, e) in rw other (stamp-at (first + 1) clocks place k (omega (arith, e)))

-- ---- tests that hold from one number on, and below another

last-trim : (test : ℕ → Bool) (n m : ℕ) → n ≤ m → ((k : ℕ) → n ≤ k → k < m → test k ≡ false) → last_below test m ≡ last_below test n
last-trim test n zero low e = let none : n ≡ 0 = omega (arith, low) in rw none refl
last-trim test n (suc m) low e =
    elim (cases_order n (suc m)) [
      | inl same ↦ rw same refl
      | inr (inl less) ↦ rw (e m (omega (arith, less)) (omega arith)) (last-trim test n m (omega (arith, less)) (λ k up down. e k up (omega (arith, down))))
      | inr (inr more) ↦ absurd (omega (arith, low, more))
    ]

-- a number counted from another one on
abbrev pub behind : ℕ → Option ℕ → Option ℕ
behind first None = None
behind first (Some place) = Some (first + place)

last-shift : (test : ℕ → Bool) (first n : ℕ) → ((k : ℕ) → k < first → test k ≡ false) → last_below test (first + n) ≡ behind first (last_below (λ place. test (first + place)) n)
last-shift test first zero e = let none : first + 0 ≡ first = omega arith in rw none (last-none test first e)
last-shift test first (suc n) e =
    let next : first + suc n ≡ suc (first + n) = omega arith in
    rw next
    ((elim (test (first + n)) as (λ b. test (first + n) ≡ b → last_below test (suc (first + n)) ≡ behind first (last_below (λ place. test (first + place)) (suc n))) [
      | true ↦ λ t. rw t refl
      | false ↦ λ t. rw t (last-shift test first n e)
    ]) refl)

-- ---- the last one, by its place

abbrev waits : ℕ → ℕ → List (Option ℕ) → ℕ → ℕ → ℕ → Bool
waits first closed clocks delay now k = nat_le (first + closed) k && waited_long (stamp_of (stamps_from first clocks) k) delay now

waits-before : (first closed : ℕ) (clocks : List (Option ℕ)) (delay now k : ℕ) → k < first → waits first closed clocks delay now k ≡ false
waits-before first closed clocks delay now k low = let early : nat_le (first + closed) k ≡ false = grind (arith, common_steps, low) in rw early refl

waits-at : (first closed : ℕ) (clocks : List (Option ℕ)) (delay now place : ℕ) → waits first closed clocks delay now (first + place) ≡ is_waiting clocks closed delay now place
waits-at first closed clocks delay now place =
    let same : nat_le (first + closed) (first + place) ≡ nat_le closed place = grind (arith, common_steps) in
    rw (stamp-at first clocks place (first + place) refl, same) refl

waits-past : (first closed : ℕ) (clocks : List (Option ℕ)) (delay now k : ℕ) → first + length clocks ≤ k → waits first closed clocks delay now k ≡ false
waits-past first closed clocks delay now k h =
    let place : k ≡ first + (k - first) = omega (arith, h) in
    rw (stamp-at first clocks (k - first) k place, nth-past None clocks (k - first) (omega (arith, h))) (and-none (nat_le (first + closed) k))

pub overdue-at : (first closed : ℕ) (clocks : List (Option ℕ)) (delay now buckets places : ℕ) → places ≡ min (length clocks) (buckets - first) →
    behind first (last_below (is_waiting clocks closed delay now) places) ≡ last_below (λ k. nat_le (first + closed) k && waited_long (stamp_of (stamps_from first clocks) k) delay now) buckets
overdue-at first closed clocks delay now buckets places e =
    elim (cases_order first buckets) [
      | inl same ↦ none (omega (arith, same))
      | inr (inl less) ↦
          sym
          (last-trim (waits first closed clocks delay now) (first + places) buckets (omega (arith, e, less)) (λ k up down. waits-past first closed clocks delay now k (omega (arith, e, up, down)))
          ∙ last-shift (waits first closed clocks delay now) first places (λ k low. waits-before first closed clocks delay now k low)
          ∙ ap (behind first) (last-same (λ place. waits first closed clocks delay now (first + place)) (is_waiting clocks closed delay now) places (waits-at first closed clocks delay now)))
      | inr (inr more) ↦ none (omega (arith, more))
    ]
  where
    none : buckets ≤ first → behind first (last_below (is_waiting clocks closed delay now) places) ≡ last_below (waits first closed clocks delay now) buckets
    none h =
        let no_place : places ≡ 0 = omega (arith, e, h) in
        rw no_place (sym (last-none (waits first closed clocks delay now) buckets (λ k low. waits-before first closed clocks delay now k (omega (arith, h, low)))))
