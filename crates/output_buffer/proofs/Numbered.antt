-- Stable items, one more at the end.
use Rattle.std.proofs.Common.{◌≡◌, ℕ, zero, suc, ◌+◌, ◌-◌, ◌<◌, ◌≤◌, List, [], ◌∷◌, ◌++◌, take, drop, length, arith, slice_index_or}
use Rattle.dpc_model.specs.Sessions.{stable_items}
use Rattle.dpc_model.specs.declared.tuples.Tuple.{Tuple}
use Rattle.dpc_model.proofs.StableItems.{stable_items-taken}
use Rattle.dpc_model.specs.declared.tuples.Item.TheVariants.{Stable}

pub items-more : (n p i : ℕ) (xs : List Tuple) (t : Tuple) → p ≤ i → i < length xs → t ≡ slice_index_or xs i t →
    stable_items n (take (i + 1 - p) (drop p xs)) ≡ stable_items n (take (i - p) (drop p xs)) ++ Stable (n + (i - p)) t ∷ []
items-more n zero i xs t low inside e =
    let all : i + 1 - 0 ≡ suc i = omega arith in let none : i - 0 ≡ i = omega arith in rw (all, none) (stable_items-taken n i xs t inside e)
items-more n (suc p) i [] t low inside e = absurd (omega (arith, inside))
items-more n (suc p) zero (x ∷ xs) t low inside e = absurd (omega (arith, low))
items-more n (suc p) (suc i) (x ∷ xs) t low inside e =
    let more : suc i + 1 - suc p ≡ i + 1 - p = omega arith in let same : suc i - suc p ≡ i - p = omega arith in
    rw (more, same) (items-more n p i xs t (omega (arith, low)) (omega (arith, inside)) e)
