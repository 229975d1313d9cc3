-- The least of what readers acknowledged, reader by reader.
use Rattle.std.proofs.Common.{◌≡◌, ℕ, zero, suc, ◌+◌, ◌<◌, min, List, [], ◌∷◌, ◌++◌, map, take, length, refl, arith, Some, slice_get, slice_index_or}
use Rattle.dpc_lists.specs.Lists.{least, nth}
use Rattle.dpc_model.specs.Sessions.{Acked}

min-assoc : (a b c : ℕ) → min a (min b c) ≡ min (min a b) c
min-assoc a b c = omega arith

least-more : (d x y : ℕ) (xs : List ℕ) → least d (x ∷ (xs ++ y ∷ [])) ≡ min (least d (x ∷ xs)) y
least-more d x y [] = refl
least-more d x y (z ∷ xs) = rw (least-more d z y xs) (min-assoc x (least d (z ∷ xs)) y)

-- the number of the first reader
abbrev pub first_of : List Acked → ℕ
first_of acks = (nth (0, 0) acks 0).1

-- the least of the first readers' numbers, the first one's where there is none
abbrev pub least_of : ℕ → List Acked → ℕ
least_of i acks = least (first_of acks) (map (λ (a : Acked). a.1) (take i acks))

taken-more : (i : ℕ) (acks : List Acked) (a : Acked) → slice_get acks i ≡ Some a → map (λ (b : Acked). b.1) (take (suc i) acks) ≡ map (λ (b : Acked). b.1) (take i acks) ++ a.1 ∷ []
taken-more i [] a e = cc
taken-more zero (b ∷ acks) a e = let same : b ≡ a = cc in rw same refl
taken-more (suc i) (b ∷ acks) a e = rw (taken-more i acks a e) refl

least-next : (i : ℕ) (acks : List Acked) (a : Acked) → slice_get acks i ≡ Some a → least_of (i + 1) acks ≡ min (least_of i acks) a.1
least-next i [] a e = cc
least-next zero (b ∷ acks) a e = let same : b ≡ a = cc in rw same (let one : a.1 ≡ min a.1 a.1 = omega arith in one)
least-next (suc i) (b ∷ acks) a e =
    let next : suc i + 1 ≡ suc (suc i) = omega arith in
    rw (next, taken-more i acks a e) (least-more b.1 b.1 a.1 (map (λ (c : Acked). c.1) (take i acks)))

-- the least of all
pub least-all : (acks : List Acked) → least_of (length acks) acks ≡ least 0 (map (λ (a : Acked). a.1) acks)
least-all [] = refl
least-all (a ∷ acks) = whole a.1 0 (map (λ (b : Acked). b.1) acks) (same-all acks)
  where
    same-all : (xs : List Acked) → map (λ (b : Acked). b.1) (take (length xs) xs) ≡ map (λ (b : Acked). b.1) xs
    same-all [] = refl
    same-all (x ∷ xs) = rw (same-all xs) refl

    default : (d e x : ℕ) (xs : List ℕ) → least d (x ∷ xs) ≡ least e (x ∷ xs)
    default d e x [] = refl
    default d e x (y ∷ xs) = rw (default d e y xs) refl

    whole : (x d : ℕ) (xs : List ℕ) → map (λ (b : Acked). b.1) (take (length acks) acks) ≡ xs → least x (x ∷ map (λ (b : Acked). b.1) (take (length acks) acks)) ≡ least d (x ∷ xs)
    whole x d xs e = rw e (default x d x xs)

get-index : (i : ℕ) (acks : List Acked) (d : Acked) → i < length acks → slice_get acks i ≡ Some (slice_index_or acks i d)
get-index i [] d low = absurd (omega (arith, low))
get-index zero (a ∷ acks) d low = refl
get-index (suc i) (a ∷ acks) d low = get-index i acks d (omega (arith, low))

pub least-at : (i : ℕ) (acks : List Acked) → i < length acks → least_of (i + 1) acks ≡ min (least_of i acks) (slice_index_or acks i (0, 0)).1
least-at i acks low = least-next i acks (slice_index_or acks i (0, 0)) (get-index i acks (0, 0) low)
