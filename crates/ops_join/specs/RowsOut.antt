-- Rows that are given one behind another. What was taken since a beginning is told by a relation of who takes them.
use Rattle.std.specs.Prelude.{◌≡◌, List, ◌++◌}
use Rattle.dpc_model.specs.declared.tuples.Tuple.{Tuple}

-- behind those before, some first ones of these rows were taken
pub record TookFirst {A B : Type 0} (since : A → B → List Tuple → Type 0) (start : A) (begin : B) (before rows : List Tuple) : Type 0 where
  pub gone : List Tuple
  pub rest : List Tuple
  pub split : rows ≡ gone ++ rest
  pub took : since start begin (before ++ gone)

-- between the two states these rows were taken, whatever the beginning is
abbrev pub Takes : {A B : Type 0} → (A → B → List Tuple → Type 0) → (A → B → List Tuple → Type 0) → List Tuple → Type 0
Takes {A} {B} old new rows = (start : A) (begin : B) (before : List Tuple) → old start begin before → new start begin (before ++ rows)

-- some first ones of them were
abbrev pub TakesFirst : {A B : Type 0} → (A → B → List Tuple → Type 0) → (A → B → List Tuple → Type 0) → List Tuple → Type 0
TakesFirst {A} {B} old new rows = (start : A) (begin : B) (before : List Tuple) → old start begin before → TookFirst new start begin before rows
