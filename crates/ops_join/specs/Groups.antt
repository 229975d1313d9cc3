-- The inputs of a bucket, time by time.
use Rattle.std.specs.Prelude.{ℕ, ◌≤◌, ◌<◌, List, ◌++◌, filter, length, nat_lt, flat_map}
use Rattle.std.specs.List.{AllByRecursion}
use Rattle.dpc_model.specs.Streams.{IsOrdered}
use Rattle.dpc_model.specs.Operators.{pairs_with}
use Rattle.dpc_model.specs.declared.tuples.Tuple.{Tuple}
use Rattle.dpc_model.specs.declared.tuples.Tagged.{Tagged}

-- how many inputs lie below a time
abbrev pub tagged_below : ℕ → List Tagged → ℕ
tagged_below b xs = length (filter (λ (x : Tagged). nat_lt x.tuple.stime b) xs)

-- inputs in order of time, behind the tuples that are kept
pub record ComesAfter (ls rs : List Tuple) (xs : List Tagged) : Type 0 where
  pub begin : ℕ
  pub left : AllByRecursion (λ (t : Tuple). t.stime < begin) ls
  pub right : AllByRecursion (λ (t : Tuple). t.stime < begin) rs
  pub inputs : AllByRecursion (λ (x : Tagged). begin ≤ x.tuple.stime) xs
  pub ordered : IsOrdered (λ (x : Tagged). x.tuple.stime) xs

-- the rows that tuples of one time add: of those before with the new right ones, and of the new left ones with all
abbrev pub group_rows : ℕ → List (ℕ × ℕ) → List Tuple → List Tuple → List Tuple → List Tuple → List Tuple
group_rows within keys ls rs left right = flat_map (pairs_with within keys right) ls ++ flat_map (pairs_with within keys (rs ++ right)) left
