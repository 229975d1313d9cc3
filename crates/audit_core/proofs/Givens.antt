-- Rows that were given, all of them or some first ones.
use Rattle.std.proofs.Common.{◌≡◌, Bool, true, List, [], ◌++◌, Result, Ok, Err, OnOk, OnErr, is_ok, refl, sym, append-nil}
use Rattle.dpc_model.specs.declared.tuples.Tuple.{Tuple}
use Rattle.ops_join.specs.RowsOut.{Takes, TakesFirst}

-- some first rows were taken, and all of them where that is said
pub record IsGiven {A B : Type 0} (since : A → B → List Tuple → Type 0) (start : A) (begin : B) (all : Bool) (rows : List Tuple) : Type 0 where
  pub gone : List Tuple
  pub rest : List Tuple
  pub split : rows ≡ gone ++ rest
  pub took : since start begin gone
  pub end : all ≡ true → rest ≡ []

pub given : {A B X E : Type 0} (told : Result X E) (old new : A → B → List Tuple → Type 0) (rows : List Tuple) (start : A) (begin : B) → OnOk told (Takes old new rows) → OnErr told (TakesFirst old new rows) → old start begin [] →
    IsGiven new start begin (is_ok told) rows
given (Ok x) old new rows start begin all some none =
    record { gone = rows; rest = []; split = sym (append-nil rows); took = all start begin [] none; end = λ _. refl }
given (Err e) old new rows start begin all some none =
    let first = some start begin [] none in
    record { gone = first.gone; rest = first.rest; split = first.split; took = first.took; end = λ whole. absurd (cc) }
