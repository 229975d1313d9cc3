-- A list that is mapped in place, element by element.
use Rattle.std.proofs.Common.{◌≡◌, ℕ, zero, suc, ◌≤◌, List, [], ◌∷◌, map, length, refl, ap, arith}
use Rattle.dpc_lists.proofs.Mapped.{mapped_to}

pub mapped-all : {X : Type 0} (f : X → X) (i : ℕ) (xs : List X) → length xs ≤ i → mapped_to f i xs ≡ map f xs
mapped-all f zero [] high = refl
mapped-all f zero (x ∷ xs) high = absurd (omega (arith, high))
mapped-all f (suc i) [] high = refl
mapped-all {X} f (suc i) (x ∷ xs) high = ap (λ (ys : List X). f x ∷ ys) (mapped-all f i xs (omega (arith, high)))
