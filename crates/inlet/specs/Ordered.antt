-- Tentative tuples in order of time.
use Rattle.std.specs.Prelude.{ℕ, ◌≤◌, List, Option, IfSome}
use Rattle.std.specs.List.{AllByRecursion}
use Rattle.dpc_model.specs.Streams.{InOrder}
use Rattle.dpc_model.specs.declared.tuples.Tuple.{Tuple}

-- the tuples are in order of time, and none lies past this time
pub record IsUpto (ts : List Tuple) (n : ℕ) : Type 0 where
  pub ordered : InOrder ts
  pub upto : AllByRecursion (λ (t : Tuple). t.stime ≤ n) ts

-- so they are where a last time is known
abbrev pub IsUptoIf : List Tuple → Option ℕ → Type 0
IsUptoIf ts last = IfSome last (IsUpto ts)
