-- Lists that are known to be in order of time.
use Rattle.std.specs.Prelude.{⊤, ◌≡◌, ◌≤◌, ℕ, Bool, true, List, Option, Some, None}
use Rattle.dpc_model.specs.Streams.{InOrder}
use Rattle.dpc_model.specs.declared.tuples.Tuple.{Tuple}

-- they are, where the flag says so
pub record IsOrderedIf (ts : List Tuple) (flag : Bool) : Type 0 where
  pub holds : flag ≡ true → InOrder ts

-- a time, where there is one, is not past this one
abbrev pub IsUpto : ℕ → Option ℕ → Type 0
IsUpto b None = ⊤
IsUpto b (Some n) = n ≤ b
