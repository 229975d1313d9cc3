-- Stable items, one more at the end.
use Rattle.std.proofs.Common.{◌≡◌, ℕ, zero, suc, ◌+◌, ◌<◌, List, [], ◌∷◌, ◌++◌, take, length, refl, ap, arith, slice_index_or}
use Rattle.dpc_model.specs.Sessions.{stable_items}
use Rattle.dpc_model.specs.declared.tuples.Tuple.{Tuple}
use Rattle.dpc_model.specs.declared.tuples.Item.{Item}
use Rattle.dpc_model.specs.declared.tuples.Item.TheVariants.{Stable}

pub stable_items-push : (k : ℕ) (ts : List Tuple) (t : Tuple) → stable_items k (ts ++ t ∷ []) ≡ stable_items k ts ++ Stable (k + length ts) t ∷ []
stable_items-push k [] t = let e : k + 0 ≡ k = omega arith in rw e refl
stable_items-push k (u ∷ us) t =
    let e : k + 1 + length us ≡ k + length (u ∷ us) = omega arith in
    ap (λ (is : List Item). Stable k u ∷ is) (rw e at (stable_items-push (k + 1) us t))

pub stable_items-taken : (n i : ℕ) (xs : List Tuple) (t : Tuple) → i < length xs → t ≡ slice_index_or xs i t →
    stable_items n (take (suc i) xs) ≡ stable_items n (take i xs) ++ Stable (n + i) t ∷ []
stable_items-taken n i [] t low e = absurd (omega (arith, low))
stable_items-taken n zero (x ∷ xs) t low e = let none : n + 0 ≡ n = omega arith in rw (none, e) refl
stable_items-taken n (suc i) (x ∷ xs) t low e =
    let next : n + suc i ≡ n + 1 + i = omega arith in
    rw next (ap (λ (items : List Item). Stable n x ∷ items) (stable_items-taken (n + 1) i xs t (omega (arith, low)) e))
