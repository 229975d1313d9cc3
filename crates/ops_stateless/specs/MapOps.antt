-- A map as an engine over buckets.
use Rattle.std.specs.Prelude.{ℕ, Bool, false, List}
use Rattle.dpc_model.specs.Formula.{Formula}
use Rattle.dpc_model.specs.Operators.{mapped}
use Rattle.dpc_model.specs.Fragments.{at_port}
use Rattle.dpc_model.specs.Engines.{Value}

-- a map gives the values of its expressions on the tuples of port 0
abbrev pub map_value : List Formula → Value
map_value es xs b = mapped es (at_port 0 xs)

-- what contracts see of a map: its expressions, the next bucket, and whether it wanted memory
pub record MapState : Type 0 where
  pub exprs : List Formula
  pub next : ℕ
  pub spent : Bool

-- a map before bucket 0
abbrev pub new_map : List Formula → MapState
new_map es = record { exprs = es; next = 0; spent = false }

-- a map before bucket k, whatever came in the buckets below
abbrev pub map_before : List Formula → ℕ → MapState
map_before es k = record { exprs = es; next = k; spent = false }
