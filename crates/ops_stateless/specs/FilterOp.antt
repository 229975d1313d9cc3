-- A filter as an engine over buckets.
use Rattle.std.specs.Prelude.{ℕ, Bool, false}
use Rattle.dpc_model.specs.Formula.{Formula}
use Rattle.dpc_model.specs.Operators.{filtered}
use Rattle.dpc_model.specs.Fragments.{at_port}
use Rattle.dpc_model.specs.Engines.{Value}

-- a filter keeps the tuples of port 0 whose value counts as true
abbrev pub filter_value : Formula → Value
filter_value e xs b = filtered e (at_port 0 xs)

-- what contracts see of a filter: its expression, the next bucket, and whether it wanted memory
pub record FilterState : Type 0 where
  pub expr : Formula
  pub next : ℕ
  pub spent : Bool

-- a filter before bucket 0
abbrev pub new_filter : Formula → FilterState
new_filter e = record { expr = e; next = 0; spent = false }

-- a filter before bucket k, whatever came in the buckets below
abbrev pub filter_before : Formula → ℕ → FilterState
filter_before e k = record { expr = e; next = k; spent = false }
