-- Where an element stands in a list.
use Rattle.std.proofs.Common.{◌≡◌, ℕ, zero, suc, ◌<◌, Bool, true, false, cond, ◌==◌, List, [], ◌∷◌, map, length, refl, ap, arith, replicate, position, slice_index_or, Option, Some, None, sym, ◌-◌}
use Rattle.std.proofs.lemmas.Grind.{common_steps}
use Rattle.dpc_lists.specs.Lists.{nth, place_of, last_below}
use Rattle.dpc_lists.proofs.Truths.{eq-of}

-- the place of a number, however the two are compared
pub position-place : (a : ℕ) (xs : List ℕ) → position (λ (b : ℕ). b == a) xs ≡ place_of (λ b. a == b) xs
position-place a [] = refl
position-place a (x ∷ xs) = grind (arith, common_steps, position-place a xs)

abbrev pub next_place : Option ℕ → Option ℕ
next_place o = elim o [ None ↦ None | Some i ↦ Some (suc i) ]

-- a place that was found lies in the list
pub place-within : {X : Type 0} (test : X → Bool) (xs : List X) (i : ℕ) → place_of test xs ≡ Some i → i < length xs
place-within test [] i e = absurd (cc)
place-within test (x ∷ xs) i e =
    (elim (test x) as (λ b. cond b (Some 0) (next_place (place_of test xs)) ≡ Some i → i < suc (length xs)) [
      | true ↦ λ h. let first : 0 ≡ i = cc in omega (arith, first)
      | false ↦ λ h.
          (elim (place_of test xs) as (λ o. place_of test xs ≡ o → next_place o ≡ Some i → i < suc (length xs)) [
            | None ↦ λ p q. absurd (cc)
            | Some k ↦ λ p q. let low = place-within test xs k p in let next : suc k ≡ i = cc in omega (arith, low, next)
          ]) refl h
    ]) e

-- the element at a place of the list
pub nth-at : {X : Type 0} (none : X) (i : ℕ) (xs : List X) (d : X) → i < length xs → slice_index_or xs i d ≡ nth none xs i
nth-at none i [] d low = absurd (omega (arith, low))
nth-at none zero (x ∷ xs) d low = refl
nth-at none (suc i) (x ∷ xs) d low = nth-at none i xs d (omega (arith, low))

-- the same for each element
pub same-each : {X Y : Type 0} (y : Y) (xs : List X) → replicate (length xs) y ≡ map (λ _. y) xs
same-each y [] = refl
same-each {Y = Y} y (x ∷ xs) = ap (λ (ys : List Y). y ∷ ys) (same-each y xs)

pub place-nth : (a : ℕ) (xs : List ℕ) (k : ℕ) → place_of (λ b. a == b) xs ≡ Some k → nth 0 xs k ≡ a
place-nth a [] k e = cc
place-nth a (x ∷ xs) k e =
    (elim (a == x) as (λ b. (a == x) ≡ b → cond b (Some 0) (elim (place_of (λ b. a == b) xs) [ None ↦ None | Some i ↦ Some (suc i) ]) ≡ Some k → nth 0 (x ∷ xs) k ≡ a) [
      | true ↦ λ same f. let first : k ≡ 0 = cc in rw first (sym (eq-of a x same))
      | false ↦ λ other. (elim (place_of (λ b. a == b) xs) as (λ o. place_of (λ b. a == b) xs ≡ o → elim o [ None ↦ None | Some i ↦ Some (suc i) ] ≡ Some k → nth 0 (x ∷ xs) k ≡ a) [
        | None ↦ λ g f. cc
        | Some i ↦ λ g f. let next : k ≡ suc i = cc in rw next (place-nth a xs i g)
      ]) refl
    ]) refl e

pub last-same : (p q : ℕ → Bool) (n : ℕ) → ((k : ℕ) → p k ≡ q k) → last_below p n ≡ last_below q n
last-same p q zero e = refl
last-same p q (suc n) e = rw (e n, last-same p q n e) refl

pub last-none : (test : ℕ → Bool) (n : ℕ) → ((k : ℕ) → k < n → test k ≡ false) → last_below test n ≡ None
last-none test zero h = refl
last-none test (suc m) h = rw (h m (omega arith)) (last-none test m (λ k l. h k (omega arith)))
