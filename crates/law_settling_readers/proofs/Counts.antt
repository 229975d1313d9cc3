-- How many elements of a list pass a test.
use Rattle.std.proofs.Common.{◌≡◌, ℕ, zero, suc, ◌+◌, ◌≤◌, Bool, true, false, cond, nat_lt, List, [], ◌∷◌, ◌++◌, map, refl, ap, ◌∙◌, arith, Some, slice_get}
use Rattle.dpc_lists.specs.Lists.{insert_by, sort_by}
use Rattle.dpc_lists.proofs.Somes.{some-same}
use Rattle.dpc_lists.proofs.Each.{Each}

abbrev pub one_if : Bool → ℕ
one_if b = cond {A = ℕ} b 1 0

abbrev pub count : {X : Type 0} → (X → Bool) → List X → ℕ
count q [] = 0
count q (x ∷ xs) = one_if (q x) + count q xs

pub count-append : {X : Type 0} (q : X → Bool) (xs ys : List X) → count q (xs ++ ys) ≡ count q xs + count q ys
count-append q [] ys = omega arith
count-append q (x ∷ xs) ys = let rest = count-append q xs ys in omega (arith, rest)

pub count-none : {X : Type 0} (q : X → Bool) (xs : List X) → Each (λ (x : X). q x ≡ false) xs → count q xs ≡ 0
count-none q [] h = refl
count-none q (x ∷ xs) h = let rest = count-none q xs h.1 in let here : one_if (q x) ≡ 0 = ap one_if h.0 in omega (arith, rest, here)

-- sorting leaves it
count-insert : {X : Type 0} (q : X → Bool) (key : X → ℕ) (x : X) (xs : List X) → count q (insert_by key x xs) ≡ one_if (q x) + count q xs
count-insert q key x [] = refl
count-insert q key x (y ∷ ys) =
    elim (nat_lt (key y) (key x)) as (λ b. count q (cond b (y ∷ insert_by key x ys) (x ∷ y ∷ ys)) ≡ one_if (q x) + count q (y ∷ ys)) [
      | true ↦ let rest = count-insert q key x ys in omega (arith, rest)
      | false ↦ refl
    ]

pub count-sorted : {X : Type 0} (q : X → Bool) (key : X → ℕ) (xs : List X) → count q (sort_by key xs) ≡ count q xs
count-sorted q key [] = refl
count-sorted q key (x ∷ xs) = let one = count-insert q key x (sort_by key xs) in let rest = count-sorted q key xs in omega (arith, one, rest)

pub count-map : {X Y : Type 0} (q : Y → Bool) (f : X → Y) (xs : List X) → count q (map f xs) ≡ count (λ (x : X). q (f x)) xs
count-map q f [] = refl
count-map q f (x ∷ xs) = let rest = count-map q f xs in omega (arith, rest)

pub count-same : {X : Type 0} (q r : X → Bool) (xs : List X) → ((x : X) → q x ≡ r x) → count q xs ≡ count r xs
count-same q r [] h = refl
count-same q r (x ∷ xs) h = let here : one_if (q x) ≡ one_if (r x) = ap one_if (h x) in let rest = count-same q r xs h in omega (arith, here, rest)

-- where some are counted one is found
pub record IsFound {X : Type 0} (q : X → Bool) (xs : List X) : Type 0 where
  pub place : ℕ
  pub item : X
  pub there : slice_get xs place ≡ Some item
  pub passes : q item ≡ true

pub found-of : {X : Type 0} (q : X → Bool) (xs : List X) → 1 ≤ count q xs → IsFound q xs
found-of q [] h = absurd (omega (arith, h))
found-of q (x ∷ xs) h =
    (elim (q x) as (λ b. q x ≡ b → 1 ≤ one_if b + count q xs → IsFound q (x ∷ xs)) [
      | true ↦ λ e g. record { place = 0; item = x; there = refl; passes = e }
      | false ↦ λ e g. let f = found-of q xs (omega (arith, g)) in record { place = suc f.place; item = f.item; there = f.there; passes = f.passes }
    ]) refl h

pub count-at : {X : Type 0} (q : X → Bool) (xs : List X) (i : ℕ) (x : X) → slice_get xs i ≡ Some x → q x ≡ true → 1 ≤ count q xs
count-at q [] i x e p = cc
count-at q (y ∷ ys) zero x e p = let same : y ≡ x = some-same y x e in let here : one_if (q y) ≡ 1 = ap (λ z. one_if (q z)) same ∙ ap one_if p in omega (arith, here)
count-at q (y ∷ ys) (suc i) x e p = let rest = count-at q ys i x e p in omega (arith, rest)

-- one alone has one place
pub one-place : {X : Type 0} (q : X → Bool) (xs : List X) (i j : ℕ) (x y : X) → count q xs ≤ 1 → slice_get xs i ≡ Some x → slice_get xs j ≡ Some y → q x ≡ true → q y ≡ true → i ≡ j
one-place q [] i j x y few at_i at_j p r = cc
one-place q (z ∷ zs) zero zero x y few at_i at_j p r = refl
one-place q (z ∷ zs) (suc i) (suc j) x y few at_i at_j p r = ap suc (one-place q zs i j x y (omega (arith, few)) at_i at_j p r)
one-place q (z ∷ zs) zero (suc j) x y few at_i at_j p r =
    let first = count-at q (z ∷ []) 0 x at_i p in let rest = count-at q zs j y at_j r in absurd (omega (arith, few, first, rest))
one-place q (z ∷ zs) (suc i) zero x y few at_i at_j p r =
    let first = count-at q (z ∷ []) 0 y at_j r in let rest = count-at q zs i x at_i p in absurd (omega (arith, few, first, rest))
