-- What is left of a list behind its first elements.
use Rattle.std.proofs.Common.{◌≡◌, ℕ, suc, zero, ◌+◌, nat_le, List, [], ◌∷◌, length, drop, refl, ap, ◌∙◌, arith}
use Rattle.std.proofs.lemmas.Grind.{common_steps}
use Rattle.dpc_lists.specs.Lists.{is_nil}

pub more : {X : Type 0} (n : ℕ) (xs : List X) → drop (n + 1) xs ≡ drop 1 (drop n xs)
more zero xs = refl
more (suc n) [] = let e : suc n + 1 ≡ suc (n + 1) = omega arith in ap (λ k. drop k []) e
more (suc n) (x ∷ xs) = let e : suc n + 1 ≡ suc (n + 1) = omega arith in ap (λ k. drop k (x ∷ xs)) e ∙ more n xs

pub none-left : {X : Type 0} (n : ℕ) (xs : List X) → is_nil (drop n xs) ≡ nat_le (length xs) n
none-left zero [] = refl
none-left zero (x ∷ xs) = grind (arith, common_steps)
none-left (suc n) [] = grind (arith, common_steps)
none-left (suc n) (x ∷ xs) = grind (arith, common_steps, none-left n xs)
