-- Items of tuples, one more at the end.
use Rattle.std.proofs.Common.{◌≡◌, ℕ, zero, suc, ◌+◌, ◌<◌, List, [], ◌∷◌, ◌++◌, take, length, refl, ap, arith, slice_index_or}
use Rattle.dpc_model.specs.Sessions.{tentative_items}
use Rattle.dpc_model.specs.declared.tuples.Tuple.{Tuple}
use Rattle.dpc_model.specs.declared.tuples.Item.{Item}
use Rattle.dpc_model.specs.declared.tuples.Item.TheVariants.{Tentative}

pub tentative_items-taken : (i : ℕ) (xs : List Tuple) (t : Tuple) → i < length xs → t ≡ slice_index_or xs i t →
    tentative_items (take (i + 1) xs) ≡ tentative_items (take i xs) ++ Tentative t ∷ []
tentative_items-taken i [] t low e = absurd (omega (arith, low))
tentative_items-taken zero (x ∷ xs) t low e = rw e refl
tentative_items-taken (suc i) (x ∷ xs) t low e =
    let next : suc i + 1 ≡ suc (i + 1) = omega arith in rw next (ap (λ (items : List Item). Tentative x ∷ items) (tentative_items-taken i xs t (omega (arith, low)) e))
