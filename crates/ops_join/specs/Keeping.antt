-- What a join's sides are between buckets.
use Rattle.std.specs.Prelude.{ℕ, ◌<◌, List}
use Rattle.std.specs.List.{AllByRecursion}
use Rattle.dpc_model.specs.Streams.{InOrder}
use Rattle.dpc_model.specs.declared.tuples.Tuple.{Tuple}
use Rattle.ops_join.specs.declared.ends.End.{End}
use Rattle.ops_join.specs.declared.side.Side.{Side}
use Rattle.ops_join.specs.Sides.{IsIndexOf}

-- the chains of a side have its tuples
abbrev pub IsIndexed : End → List (ℕ × ℕ) → Side → Type 0
IsIndexed end keys s = IsIndexOf end keys s.first s.tuples.items s.chains.heads.items s.chains.before.items

-- whatever the end and the key columns are, chains that had its tuples have them still
abbrev pub StaysIndexed : Side → Side → Type 0
StaysIndexed old new = (end : End) (keys : List (ℕ × ℕ)) → IsIndexed end keys old → IsIndexed end keys new

-- the tuples of a side are in order, and below a time
pub record IsKept (b : ℕ) (ts : List Tuple) : Type 0 where
  pub order : InOrder ts
  pub below : AllByRecursion (λ (t : Tuple). t.stime < b) ts
