-- The values of a column, and the row of a group, as windows have them.
use Rattle.std.specs.Prelude.{ℕ, ℤ, List, ◌∷◌, map, filter}
use Rattle.std.specs.Ordering.{int_eq}
use Rattle.dpc_model.specs.Values.{column}
use Rattle.dpc_model.specs.Operators.{tuple_of, total_of}
use Rattle.dpc_model.specs.declared.tuples.Tuple.{Tuple}
use Rattle.dpc_model.specs.declared.operators.Agg.{Agg}

abbrev pub column_values : ℕ → List Tuple → List ℤ
column_values c ts = map (λ t. column t c) ts

-- the tuples with this value in a column
abbrev pub with_value : ℕ → ℤ → List Tuple → List Tuple
with_value c z ts = filter (λ t. int_eq (column t c) z) ts

-- the row of a group's value, at a time
abbrev pub group_row : ℕ → List Agg → ℕ → List Tuple → ℤ → Tuple
group_row c aggs time ts z = tuple_of time (z ∷ map (total_of (with_value c z ts)) aggs)
