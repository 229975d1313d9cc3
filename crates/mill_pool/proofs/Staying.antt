-- Who has all seats of a pool still has them when orders were put and taken there.
use Rattle.std.proofs.Common.{◌≡◌, ℕ, zero, suc, ◌<◌, List, [], ◌∷◌, length, get_or, sym, refl, ap, ◌∙◌, subst, arith}
use Rattle.std.proofs.Math.Option.{some-injective}
use Rattle.std.proofs.lemmas.List.Sums.{sum_by-cons}
use mathlib.Core.Option.{some, some-ne-none}
use lib.ListN.{get_elem?}
use Rattle.mill_pool.specs.declared.pool.Pool.{Pool}
use Rattle.mill_pool.specs.Seats.{SeatOf, known, parts_of, numbers_of}
use Rattle.mill_pool.specs.Answers.{IsSeatOf, AreSeatsOf, IsSameSeat}

at_place : {X : Type 0} (l : List X) (i : ℕ) (d : X) → i < length l → get_elem? l i ≡ some (get_or l i d)
at_place [] i d h = absurd (omega arith)
at_place (x ∷ xs) zero d h = refl
at_place (x ∷ xs) (suc i) d h = at_place xs i d (omega arith)

module _ {M K : Type 0} (pool : Pool M K) where
  -- each of them is a seat of the pool
  pub each_seat : (seats : List (SeatOf M)) → AreSeatsOf pool seats → (i : ℕ) (d : SeatOf M) → i < length seats → IsSeatOf pool (get_or seats i d)
  each_seat seats all i d h = all.0 i (get_or seats i d) (at_place seats i d h)

  abbrev AreSame : List (SeatOf M) → List (SeatOf M) → Type 0
  AreSame seats after = (i : ℕ) (d : SeatOf M) → i < length seats → IsSameSeat pool (get_or seats i d) (get_or after i d)

  same-numbers : (seats after : List (SeatOf M)) → length after ≡ length seats → AreSame seats after → numbers_of after ≡ numbers_of seats
  same-numbers [] [] l h = refl
  same-numbers [] (y ∷ ys) l h = absurd (omega arith)
  same-numbers (x ∷ xs) [] l h = absurd (omega arith)
  same-numbers (x ∷ xs) (y ∷ ys) l h =
      ap (λ n. n ∷ numbers_of ys) (h 0 x (omega arith)).1 ∙ ap (λ ns. (known x).number ∷ ns) (same-numbers xs ys (omega arith) (λ i d b. h (suc i) d (omega arith)))

  same-parts : (seats after : List (SeatOf M)) → length after ≡ length seats → AreSame seats after → parts_of after ≡ parts_of seats
  same-parts [] [] l h = refl
  same-parts [] (y ∷ ys) l h = absurd (omega arith)
  same-parts (x ∷ xs) [] l h = absurd (omega arith)
  same-parts (x ∷ xs) (y ∷ ys) l h =
      let a = sum_by-cons (λ (s : SeatOf M). (known s).parts) x xs in
      let b = sum_by-cons (λ (s : SeatOf M). (known s).parts) y ys in
      let c = (h 0 x (omega arith)).2 in
      let d = same-parts xs ys (omega arith) (λ i d b. h (suc i) d (omega arith)) in omega arith

  same-pool : (seats after : List (SeatOf M)) → length after ≡ length seats → AreSame seats after → (k : ℕ) (s : SeatOf M) → get_elem? after k ≡ some s → IsSeatOf pool s
  same-pool [] [] l h k s e = absurd (some-ne-none s (sym e))
  same-pool [] (y ∷ ys) l h k s e = absurd (omega arith)
  same-pool (x ∷ xs) [] l h k s e = absurd (omega arith)
  same-pool (x ∷ xs) (y ∷ ys) l h zero s e = subst (λ t. IsSeatOf pool t) (some-injective y s e) (h 0 x (omega arith)).0
  same-pool (x ∷ xs) (y ∷ ys) l h (suc k) s e = same-pool xs ys (omega arith) (λ i d b. h (suc i) d (omega arith)) k s e

  -- where each is the seat that it was, they are all seats still, with the same numbers
  pub all_stay : (seats after : List (SeatOf M)) → length after ≡ length seats → AreSeatsOf pool seats → ((i : ℕ) (d : SeatOf M) → i < length seats → IsSameSeat pool (get_or seats i d) (get_or after i d))
      → AreSeatsOf pool after × (numbers_of after ≡ numbers_of seats)
  all_stay seats after l all h = ((same-pool seats after l h, same-parts seats after l h ∙ all.1), same-numbers seats after l h)

  -- two times the same seats
  pub stays_twice : (seats between after : List (SeatOf M)) → length between ≡ length seats → ((i : ℕ) (d : SeatOf M) → i < length seats → IsSameSeat pool (get_or seats i d) (get_or between i d))
      → ((i : ℕ) (d : SeatOf M) → i < length between → IsSameSeat pool (get_or between i d) (get_or after i d))
      → (i : ℕ) (d : SeatOf M) → i < length seats → IsSameSeat pool (get_or seats i d) (get_or after i d)
  stays_twice seats between after l f g i d h =
      let a = f i d h in
      let b = g i d (omega arith) in (b.0, b.1 ∙ a.1, b.2 ∙ a.2)
