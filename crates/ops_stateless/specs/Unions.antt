-- A union as an engine over buckets.
use Rattle.std.specs.Prelude.{◌≡◌, ℕ, ◌*◌, Bool, false, List, All}
use Rattle.dpc_model.specs.Operators.{united}
use Rattle.dpc_model.specs.Engines.{Value, ports_of, LiesBelow}
use Rattle.dpc_model.specs.declared.tuples.Tagged.{Tagged}

-- a union gives the tuples of its ports in order of time, port and place
abbrev pub union_value : ℕ → Value
union_value n xs b = united (ports_of n xs)

-- what contracts see of a union: how many ports it reads, the width of a bucket, the next one, and
-- whether it wanted memory
pub record UnionState : Type 0 where
  pub ports : ℕ
  pub width : ℕ
  pub next : ℕ
  pub spent : Bool

-- a union before bucket 0
abbrev pub new_union : ℕ → ℕ → UnionState
new_union ports width = record { ports = ports; width = width; next = 0; spent = false }

-- a union before bucket k, whatever came in the buckets below
abbrev pub union_before : ℕ → ℕ → ℕ → UnionState
union_before ports width k = record { ports = ports; width = width; next = k; spent = false }

-- it took these inputs, those below bucket k: it keeps nothing of them
pub record UnionAfter (u : UnionState) (xs : List Tagged) (k : ℕ) : Type 0 where
  pub next : u.next ≡ k
  pub below : All (LiesBelow (k * u.width)) xs
