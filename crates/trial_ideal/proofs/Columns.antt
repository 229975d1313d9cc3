-- The values of a column, from the last tuple on.
use Rattle.std.proofs.Common.{◌≡◌, ℕ, zero, suc, ◌+◌, ◌<◌, ℤ, List, [], ◌∷◌, length, drop, get_or, refl, arith}
use Rattle.std.proofs.lemmas.Grind.{common_steps}
use Rattle.std.specs.Ordering.{int_cmp}
use Rattle.std.specs.BTreeSet.{insert_key}
use Rattle.dpc_model.specs.Values.{column}
use Rattle.dpc_model.specs.Operators.{insert_value}
use Rattle.dpc_model.specs.declared.tuples.Tuple.{Tuple}
use Rattle.trial_ideal.specs.Rows.{column_values}

-- one tuple more
pub column_values-drop : (c : ℕ) (ts : List Tuple) (i : ℕ) (d : Tuple) → i < length ts → column_values c (drop i ts) ≡ column (get_or ts i d) c ∷ column_values c (drop (i + 1) ts)
column_values-drop c [] i d h = absurd (omega (arith, h))
column_values-drop c (t ∷ ts) zero d h = refl
column_values-drop c (t ∷ ts) (suc i) d h =
    let e : suc i + 1 ≡ suc (i + 1) = omega arith in
    rw e (column_values-drop c ts i d (omega (arith, h)))

-- a set takes a value as the definition does
pub insert_key-value : (z : ℤ) (zs : List ℤ) → insert_key int_cmp zs z ≡ insert_value z zs
insert_key-value z [] = refl
insert_key-value z (y ∷ ys) = grind (arith, common_steps, insert_key-value z ys)
