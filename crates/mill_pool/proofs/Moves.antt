-- What another order of a list leaves: the lists that its elements have, and those that pass a test.
use Rattle.std.proofs.Common.{◌≡◌, ℕ, zero, suc, ◌<◌, Bool, true, false, cond, List, [], ◌∷◌, ◌++◌, map, length, set, get_or, sym, refl, ap, ◌∙◌, arith}
use Rattle.std.specs.List.{flat_map, filter, swap}
use Rattle.std.specs.List.Sorted.{IsPermutation}
use Rattle.std.proofs.lemmas.List.Sorted.{IsPermutation-refl, IsPermutation-append_right, IsPermutation-keeps}
use mathlib.Core.Option.{some}
use lib.ListN.{get_elem?}
use Rattle.mill_pool.proofs.Parts.{others, then_moves, back, same_list, blocks, flat-there, flat-set}

at_place : {X : Type 0} (l : List X) (i : ℕ) (d : X) → i < length l → get_elem? l i ≡ some (get_or l i d)
at_place [] i d h = absurd (omega arith)
at_place (x ∷ xs) zero d h = refl
at_place (x ∷ xs) (suc i) d h = at_place xs i d (omega arith)

module _ {X A : Type 0} (f : X → List A) where
  -- the element at a place comes to the front, and x to its place
  to_front : (l : List X) (j : ℕ) (x y : X) → get_elem? l j ≡ some y → IsPermutation (f y ++ flat_map f (set l j x)) (f x ++ flat_map f l)
  to_front l j x y at =
      let rest : List A = flat_map f (others l j) in
      then_moves (IsPermutation-append_right (f y) (flat_map f (set l j x)) (f x ++ rest) (flat-set f l j y x at))
      (then_moves (blocks (f y) (f x) rest)
      (IsPermutation-append_right (f x) (f y ++ rest) (flat_map f l) (back (flat-there f l j y at))))

  exchanged : (l : List X) (i j : ℕ) (d : X) → i < length l → j < length l → IsPermutation (flat_map f (set (set l i (get_or l j d)) j (get_or l i d))) (flat_map f l)
  exchanged [] i j d hi hj = absurd (omega arith)
  exchanged (x ∷ l) zero zero d hi hj = IsPermutation-refl (flat_map f (x ∷ l))
  exchanged (x ∷ l) zero (suc j) d hi hj = to_front l j x (get_or l j d) (at_place l j d (omega arith))
  exchanged (x ∷ l) (suc i) zero d hi hj = to_front l i x (get_or l i d) (at_place l i d (omega arith))
  exchanged (x ∷ l) (suc i) (suc j) d hi hj =
      IsPermutation-append_right (f x) (flat_map f (set (set l i (get_or l j d)) j (get_or l i d))) (flat_map f l) (exchanged l i j d (omega arith) (omega arith))

  swapped : (l : List X) (i j : ℕ) → i < length l → j < length l → IsPermutation (flat_map f (swap l i j)) (flat_map f l)
  swapped [] i j hi hj = absurd (omega arith)
  swapped (d ∷ l) i j hi hj = exchanged (d ∷ l) i j d hi hj

  flat-moves : (xs ys : List X) → IsPermutation xs ys → IsPermutation (flat_map f xs) (flat_map f ys)
  flat-moves xs ys p =
      IsPermutation-keeps xs (λ l. IsPermutation (flat_map f xs) (flat_map f l)) (IsPermutation-refl (flat_map f xs))
      (λ l i j hi hj h. then_moves h (back (swapped l i j hi hj))) ys p

module _ {X : Type 0} (p : X → Bool) where
  -- a list of the element, or none
  abbrev kept : X → List X
  kept x = cond (p x) (x ∷ []) []

  as_flat : (xs : List X) → filter p xs ≡ flat_map kept xs
  as_flat [] = refl
  as_flat (x ∷ xs) = let rest = as_flat xs in elim (p x) as (λ b. cond b (x ∷ filter p xs) (filter p xs) ≡ cond b (x ∷ []) [] ++ flat_map kept xs) [
    | true ↦ ap (λ l. x ∷ l) rest
    | false ↦ rest
  ]

  pub filter-moves : (xs ys : List X) → IsPermutation xs ys → IsPermutation (filter p xs) (filter p ys)
  filter-moves xs ys h =
      then_moves (same_list (filter p xs) (flat_map kept xs) (as_flat xs))
      (then_moves (flat-moves kept xs ys h) (same_list (flat_map kept ys) (filter p ys) (sym (as_flat ys))))

  pub filter-none : (xs : List X) → ((k : ℕ) (x : X) → get_elem? xs k ≡ some x → p x ≡ false) → filter p xs ≡ []
  filter-none [] h = refl
  filter-none (x ∷ xs) h = ap (λ b. cond b (x ∷ filter p xs) (filter p xs)) (h 0 x refl) ∙ filter-none xs (λ k y e. h (suc k) y e)

  pub filter-all : (xs : List X) → ((k : ℕ) (x : X) → get_elem? xs k ≡ some x → p x ≡ true) → filter p xs ≡ xs
  filter-all [] h = refl
  filter-all (x ∷ xs) h =
      ap (λ b. cond b (x ∷ filter p xs) (filter p xs)) (h 0 x refl) ∙ ap (λ l. x ∷ l) (filter-all xs (λ k y e. h (suc k) y e))

pub map-filter : {X Y : Type 0} (f : X → Y) (q : Y → Bool) (xs : List X) → map f (filter (λ x. q (f x)) xs) ≡ filter q (map f xs)
map-filter f q [] = refl
map-filter {X} f q (x ∷ xs) =
    let passed : List X = filter (λ y. q (f y)) xs in
    let rest = map-filter f q xs in elim (q (f x)) as (λ b. map f (cond b (x ∷ passed) passed) ≡ cond b (f x ∷ filter q (map f xs)) (filter q (map f xs))) [
      | true ↦ ap (λ l. f x ∷ l) rest
      | false ↦ rest
    ]
