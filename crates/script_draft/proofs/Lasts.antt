-- The last element of a list.
use Rattle.std.proofs.Common.{◌≡◌, ◌-◌, List, [], ◌∷◌, map, length, Option, Some, None, refl, arith, slice_get}
use Rattle.std.specs.Prelude.{option_map}
use Rattle.dpc_lists.specs.Lists.{last_or}

-- it stands at the greatest place
pub last-get : {X : Type 0} (xs : List X) → last_or None xs ≡ slice_get xs (length xs - 1)
last-get [] = refl
last-get (x ∷ xs) = let less : length (x ∷ xs) - 1 ≡ length xs = omega arith in rw less (behind x xs)
  where
    behind : {X : Type 0} (x : X) (xs : List X) → last_or (Some x) xs ≡ slice_get (x ∷ xs) (length xs)
    behind x [] = refl
    behind x (y ∷ xs) = behind y xs

pub last-map : {X Y : Type 0} (f : X → Y) (xs : List X) → last_or None (map f xs) ≡ option_map f (last_or None xs)
last-map f xs = behind f None xs
  where
    behind : {X Y : Type 0} (f : X → Y) (o : Option X) (xs : List X) → last_or (option_map f o) (map f xs) ≡ option_map f (last_or o xs)
    behind f o [] = refl
    behind f o (x ∷ xs) = behind f (Some x) xs
